-- Once all pages are copied, what a new copy is made of weighs no more than the bound.
use Rattle.std.proofs.Common.{◌≡◌, ◌≤◌, ◌<◌, ◌+◌, ◌||◌, ◌&&◌, ◌==◌, ◌++◌, ℕ, zero, suc, nat_le}
use Rattle.std.proofs.Common.{Bool, true, false, List, [], ◌∷◌, take, refl, sym, ◌∙◌, ap, subst}
use Rattle.std.proofs.Common.{arith, if◌then◌else◌}
use Rattle.std.specs.List.{AllByRecursion}
use Rattle.std.proofs.lemmas.Bool.{and_from, eq-eqb, le-leb, leb-false, leb-true, or_left, or_parts}
use Rattle.std.proofs.lemmas.Bool.{or_right}
use Rattle.rg_base.specs.declared.change.Change.{Change}
use Rattle.rg_laws_pages.specs.ByteClaims.Weight.{weight}
use Rattle.rg_feed.specs.Fold.Fold.{changes, copied_rows, since_begin}
use Rattle.rg_feed.specs.Fold.Lawful.{InOrder, Lawful, kept, passes_over}
use Rattle.rg_feed.specs.declared.fold.item.Item.{Item}
use Rattle.rg_feed.specs.declared.fold.item.Item.TheVariants.{Begin, PageCopy, Booked}
use Rattle.rg_feed.specs.declared.fold.item.Item.TheVariants as items
use Rattle.rg_laws_utility.specs.CopyWeight.Reach.{AreInTurn, Reaches, weight_brought, copied_to}
use Rattle.rg_laws_utility.specs.CopyWeight.Reach.{is_settled}
use Rattle.rg_laws_utility.specs.CopyWeight.Weighed.{weigh_changes, weigh_feed, weigh_rows}
use Rattle.rg_laws_utility.proofs.CopyWeightLemmas.Weighing.{weigh_rows-append}
use Rattle.rg_feed.specs.SentItems.Keeps.{Rows}

-- the first changes that are kept weigh no more than all that are
pub first_kept : (feed : List Item) (n : ℕ) (cs : List Change)
    → weigh_changes (kept feed (take n cs)) ≤ weigh_changes (kept feed cs)
first_kept feed zero cs = omega arith
first_kept feed (suc n) [] = omega arith
first_kept feed (suc n) (c ∷ cs) = go (passes_over feed c) (first_kept feed n cs)
  where
    go : (b : Bool) → weigh_changes (kept feed (take n cs)) ≤ weigh_changes (kept feed cs)
        → weigh_changes (if b then kept feed (take n cs) else c ∷ kept feed (take n cs))
        ≤ weigh_changes (if b then kept feed cs else c ∷ kept feed cs)
    go true rest = rest
    go false rest = omega (arith, rest)

module _ (pages : ℕ) where
  -- a change whose page is still to be copied is passed over
  will_pass : (copied : ℕ) (change : Change) (feed : List Item) → copied < change.home.page
      → change.home.page ≤ pages → pages ≤ copied_to copied feed
      → AreInTurn copied feed → AllByRecursion (InOrder (items.Change change)) feed
      → passes_over feed change ≡ true
  will_pass copied change [] above in_table all turn order =
      absurd (omega (arith, above, in_table, all))
  will_pass copied change (Begin o n ∷ feed) above in_table all turn order =
      will_pass copied change feed above in_table all turn order.1
  will_pass copied change (items.Change c ∷ feed) above in_table all turn order =
      will_pass copied change feed above in_table all turn order.1
  will_pass copied change (Booked s ∷ feed) above in_table all turn order =
      will_pass copied change feed above in_table all turn order.1
  will_pass copied change (PageCopy page position rows ∷ feed) above in_table all turn order =
      go (nat_le change.home.page page) refl
      (λ far. will_pass page change feed far in_table all turn.1 order.1)
    where
      here : change.home.page ≡ page
          → passes_over (PageCopy page position rows ∷ feed) change ≡ true
      here is =
          or_left (page == change.home.page && nat_le change.position.0 position.0)
          (passes_over feed change)
          (and_from (page == change.home.page) (nat_le change.position.0 position.0)
          (eq-eqb page change.home.page (sym is)) (le-leb change.position.0 position.0 order.0))

      go : (b : Bool) → nat_le change.home.page page ≡ b
          → (page < change.home.page → passes_over feed change ≡ true)
          → passes_over (PageCopy page position rows ∷ feed) change ≡ true
      go true e later = here (omega (arith, leb-true change.home.page page e, above, turn.0))
      go false e later =
          or_right (page == change.home.page && nat_le change.position.0 position.0)
          (passes_over feed change)
          (later (omega (arith, leb-false change.home.page page e)))

  unsettled : (copied page : ℕ) → is_settled pages copied page ≡ false
      → (copied < page) × (page ≤ pages)
  unsettled copied page e =
      let both = or_parts (nat_le page copied) (nat_le (pages + 1) page) e in (
        omega (arith, leb-false page copied both.0),
        omega (arith, leb-false (pages + 1) page both.1),
      )

  brings_all : (whole : List Item) (copied : ℕ) (feed : List Item)
      → ((change : Change) → passes_over feed change ≡ true → passes_over whole change ≡ true)
      → Lawful feed → AreInTurn copied feed → pages ≤ copied_to copied feed
      → weigh_rows (copied_rows feed) + weigh_changes (kept whole (changes feed))
      ≤ weight_brought pages copied feed
  brings_all whole copied [] passes lawful turn all = omega arith
  brings_all whole copied (Begin o n ∷ feed) passes lawful turn all = absurd lawful.0
  brings_all whole copied (Booked s ∷ feed) passes lawful turn all =
      brings_all whole copied feed passes lawful.2 turn all
  brings_all whole copied (PageCopy page position rows ∷ feed) passes lawful turn all =
      omega (
        arith,
        weigh_rows-append rows (copied_rows feed),
        brings_all whole page feed
            (λ change e. passes change
            (or_right (page == change.home.page && nat_le change.position.0 position.0)
            (passes_over feed change) e)) lawful.2 turn.1 all,
      )
  brings_all whole copied (items.Change change ∷ feed) passes lawful turn all =
      go (passes_over whole change) refl (is_settled pages copied change.home.page) refl
      (brings_all whole copied feed passes lawful.2 turn all)
    where
      go : (b : Bool) → passes_over whole change ≡ b → (d : Bool)
          → is_settled pages copied change.home.page ≡ d
          → weigh_rows (copied_rows feed) + weigh_changes (kept whole (changes feed))
          ≤ weight_brought pages copied feed
          → weigh_rows (copied_rows feed)
          + weigh_changes
          (if b then kept whole (changes feed) else change ∷ kept whole (changes feed))
          ≤ (if d then weight change.after else 0) + weight_brought pages copied feed
      go true e d f rest = omega (arith, rest)
      go false e true f rest = omega (arith, rest)
      go false e false f rest =
          let far = unsettled copied change.home.page f in
          absurd
          (cc (e, passes change (will_pass copied change feed far.0 far.1 all turn lawful.1)))

pub all_reach : (rows : Rows) (pages most : ℕ) (feed : List Item)
    → Reaches rows pages pages most feed → Lawful (since_begin feed) → weigh_feed feed ≤ most
all_reach rows pages most feed r lawful =
    omega (
      arith,
      r.within,
      brings_all pages (since_begin feed) 0 (since_begin feed) (λ change e. e) lawful r.turn
          (omega (arith, r.to)),
    )
