-- What a new copy may have to take is kept within what the entries have allowed.
use Rattle.std.proofs.Common.{◌≡◌, ◌≤◌, ◌+◌, ◌++◌, ℕ, Bool, true, false, List, [], ◌∷◌, Option}
use Rattle.std.proofs.Common.{Some, is_some, length, refl, sym, subst, arith}
use Rattle.rg_base.specs.declared.change.Change.{Change}
use Rattle.rg_base.specs.declared.options.Options.{Options}
use Rattle.rg_base.specs.declared.place.Place.{Place}
use Rattle.rg_base.specs.declared.row.Row.{Row}
use Rattle.rg_laws_pages.proofs.ByteClaimsLemmas.Weight.{all_rows_claim}
use Rattle.rg_laws_pages.specs.ByteClaims.Claim.{claimed_all}
use Rattle.rg_feed.specs.declared.fold.item.Item.{Item}
use Rattle.rg_feed.specs.declared.fold.item.Item.TheVariants.{Begin}
use Rattle.rg_feed.specs.declared.fold.item.Stage.{Stage}
use Rattle.rg_home.specs.Able.{Proper}
use Rattle.rg_home.specs.Pages.{slot_of}
use Rattle.rg_home.specs.Rows.{row_at}
use Rattle.rg_home.specs.Slot.{Slot}
use Rattle.rg_model.specs.State.{State}
use Rattle.rg_feed.specs.Fold.Fold.{since_begin}
use Rattle.rg_feed.specs.Fold.Lawful.{Lawful}
use Rattle.rg_laws_utility.proofs.CopyWeightLemmas.Bounding.{all_reach}
use Rattle.rg_laws_utility.proofs.CopyWeightLemmas.Bringing.{changes_reach, start_reaches}
use Rattle.rg_laws_utility.proofs.CopyWeightLemmas.Bringing.{still_reaches}
use Rattle.rg_laws_utility.specs.CopyWeight.Reach.{Reaches}
use Rattle.rg_laws_utility.specs.CopyWeight.Weighed.{weigh_changes, weigh_feed}
use Rattle.rg_feed.specs.SentItems.Keeps.{MovesRows, Rows, sent_changes}
use Rattle.rg_stmt.specs.declared.stmt.Reply.{Reply}
use Rattle.rg_stmt.specs.declared.stmt.Stmt.{Stmt}
use Rattle.rg_laws_utility.specs.ByteAccount.Account.{Account, account_said}
use Rattle.rg_laws_utility.specs.ByteAccount.Found.{rows_made, weigh_each}
use Rattle.rg_laws_utility.specs.ByteAccount.Reaching.{ReachesBy}
use Rattle.rg_laws_utility.proofs.ByteAccountLemmas.Accounts.{made_allowed}

pub said_reaches : (rows new : Rows) (pages copied : ℕ) (feed : List Item) (made : List Change)
    (st : State) (a : Account) (session : ℕ) (stmt : Stmt) (reply : Reply)
    (found : List (Option Row))
    → Reaches rows pages copied a.allowed feed → MovesRows made rows new → is_some st.utility ≡ true
    → weigh_changes made ≤ weigh_each (rows_made stmt reply found)
    → weigh_each found ≤ a.found session
    → Reaches new pages copied (account_said st a session stmt reply).allowed
    (feed ++ sent_changes made)
said_reaches rows new pages copied feed made st a session stmt reply found r moves runs weighs
    within =
    still_reaches new new pages copied (a.allowed + weigh_changes made)
    (account_said st a session stmt reply).allowed (feed ++ sent_changes made)
    (changes_reach rows new pages copied a.allowed feed made r moves) (λ place. refl)
    (omega (arith, weighs, made_allowed st a session stmt reply found runs within))

pub entry_reaches : (rows new : Rows) (s t : Stage) (most : ℕ) (feed : List Item)
    → ReachesBy rows (Some s) most feed → t.pages ≡ s.pages → t.copied ≡ s.copied
    → (t.switched ≡ false → s.switched ≡ false)
    → ((place : Place) → new place ≡ rows place) → ReachesBy new (Some t) most feed
entry_reaches rows new s t most feed r pages copied unswitched same = λ early.
    subst (λ (n : ℕ). Reaches new n t.copied most feed) (sym pages)
    (subst (λ (n : ℕ). Reaches new s.pages n most feed) (sym copied)
    (still_reaches rows new s.pages s.copied most most feed (r (unswitched early)) same
    (omega arith)))

pub begin_reaches :
    (holds : ℕ → Bool) (pages : List (List Slot)) (most : ℕ) (options : Options) (feed : List Item)
    → Proper pages → claimed_all holds pages ≤ most
    → Reaches (row_at (slot_of pages)) (length pages) 0 most
    (feed ++ Begin options (length pages) ∷ [])
begin_reaches holds pages most options feed proper le = start_reaches (row_at (slot_of pages))
    (length pages) most options feed (omega (arith, le, all_rows_claim holds pages proper))

pub feed_is_allowed : (rows : Rows) (s : Stage) (most : ℕ) (feed : List Item)
    → ReachesBy rows (Some s) most feed → s.switched ≡ false → s.pages ≤ s.copied
    → Lawful (since_begin feed) → weigh_feed feed ≤ most
feed_is_allowed rows s most feed r unswitched all lawful =
    let now = r unswitched in
    let none : s.copied ≡ s.pages = omega (arith, now.all, all) in
    all_reach rows s.pages most feed (subst (λ (n : ℕ). Reaches rows s.pages n most feed) none now)
    lawful
