-- What is sent keeps what a desk keeps of the items.
use Rattle.std.proofs.Common.{◌≡◌, ◌≤◌, ◌<◌, ◌+◌, ◌++◌, ℕ, suc, true, false, List, [], ◌∷◌, Option}
use Rattle.std.proofs.Common.{Some, None, length, refl, sym, ◌∙◌, ap, subst, arith, append-nil}
use Rattle.std.proofs.Common.{append_assoc}
use Rattle.std.specs.List.{AllByRecursion}
use Rattle.rg_base.specs.declared.change.Change.{Change}
use Rattle.rg_base.specs.declared.options.Options.{Options}
use Rattle.rg_base.specs.declared.place.Place.{Place}
use Rattle.rg_base.specs.declared.position.Position.{Position}
use Rattle.rg_base.specs.declared.row.Row.{Row}
use Rattle.rg_feed.specs.Fold.Fed.{Fed, Ordered}
use Rattle.rg_feed.specs.Fold.Fold.{row_in}
use Rattle.rg_feed.specs.Fold.Lawful.{AreRowsOf}
use Rattle.rg_feed.specs.declared.fold.item.Item.{Item}
use Rattle.rg_feed.specs.declared.fold.item.Item.TheVariants.{Begin, PageCopy}
use Rattle.rg_feed.specs.declared.fold.item.Item.TheVariants as items
use Rattle.rg_feed.specs.declared.fold.item.Stage.{Stage}
use Rattle.rg_feed.proofs.FoldLemmas.Feeding.{begin_fed, begin_ordered, change_fed, change_ordered}
use Rattle.rg_feed.proofs.FoldLemmas.Feeding.{copy_fed, copy_ordered, later_ordered, same_fed}
use Rattle.rg_model.specs.Quiet.{is_quiet}
use Rattle.rg_stmt.specs.declared.event.Entry.{Entry}
use Rattle.rg_feed.specs.SentItems.Keeps.{AreAbove, IsLoud, KeepsFeed, LeadTo, MovesRows, Rows}
use Rattle.rg_feed.specs.SentItems.Keeps.{sent_changes}
use Rattle.rg_feed.specs.SentItems.Laws.{HasCopied, HasSamePages, NoneHushed}

-- ---- a utility starts

pub start_sent : (rows : Rows) (past : List Entry) (old : Option Stage) (s : Stage)
    (changes last : ℕ) (options : Options) (feed : List Item)
    → KeepsFeed rows past old changes last feed → s.copied ≡ 0
    → ((place : Place) → place.page ≤ 0 → rows place ≡ None)
    → ((place : Place) → s.pages < place.page → rows place ≡ None) → (now : List Entry)
    → KeepsFeed rows now (Some s) 0 last (feed ++ Begin options s.pages ∷ [])
start_sent rows past old s changes last options feed keeps none low high now = record {
  copied = 0;
  ordered = begin_ordered options s.pages feed last;
  leads = λ unswitched. (
    sym none,
    subst
        (λ (n : ℕ). Fed rows (λ key. is_quiet key now)
        (record { pages = s.pages; copied = n; changes = 0 }) (feed ++ Begin options s.pages ∷ []))
        (sym none)
        (begin_fed options s.pages feed rows (λ key. is_quiet key now) low high),
  );
}

-- ---- rows are changed

-- a key that is not quiet is none that is
loud : (past : List Entry) (key k : ℕ) → is_quiet key past ≡ false → is_quiet k past ≡ true
    → k ≡ key → ⊥
loud past key k is_loud quiet same =
    absurd (cc (quiet, ap (λ (n : ℕ). is_quiet n past) same, is_loud))

moves_ordered : (last later copied : ℕ) (feed : List Item) (made : List Change)
    → Ordered last copied feed → AreAbove last later made
    → Ordered later copied (feed ++ sent_changes made)
moves_ordered last later copied feed [] ordered above = subst (Ordered later copied)
    (sym (append-nil feed)) (later_ordered last later copied feed ordered above)
moves_ordered last later copied feed (change ∷ made) ordered above =
    subst (Ordered later copied) (append_assoc feed (items.Change change ∷ []) (sent_changes made))
    (moves_ordered change.position.0 later copied (feed ++ items.Change change ∷ []) made
    (change_ordered last copied feed change ordered above.0) above.1)

moves_fed : (past : List Entry) (pages copied changes : ℕ) (rows new : Rows) (feed : List Item)
    (made : List Change)
    → Fed rows (λ key. is_quiet key past)
    (record { pages = pages; copied = copied; changes = changes }) feed
    → MovesRows made rows new → AllByRecursion (IsLoud past) made
    → Fed new (λ key. is_quiet key past)
    (record { pages = pages; copied = copied; changes = changes + length made })
    (feed ++ sent_changes made)
moves_fed past pages copied changes rows new feed [] fed moves louds =
    subst
    (Fed new (λ key. is_quiet key past)
    (record { pages = pages; copied = copied; changes = changes + 0 })) (sym (append-nil feed))
    (subst
    (λ (n : ℕ). Fed new (λ key. is_quiet key past)
    (record { pages = pages; copied = copied; changes = n }) feed) (plus_none changes)
    (same_fed rows new (λ key. is_quiet key past) (λ key. is_quiet key past)
    (record { pages = pages; copied = copied; changes = changes }) feed fed moves
    (λ k quiet. quiet)))
  where
    plus_none : (n : ℕ) → n ≡ n + 0
    plus_none n = omega arith
moves_fed past pages copied changes rows new feed (change ∷ made) fed moves louds =
    let mid = moves.0 in
    let loud_is = louds.0 in
    subst
    (Fed new (λ key. is_quiet key past)
    (record { pages = pages; copied = copied; changes = changes + length (change ∷ made) }))
    (append_assoc feed (items.Change change ∷ []) (sent_changes made)) (subst
    (λ (n : ℕ). Fed new (λ key. is_quiet key past)
    (record { pages = pages; copied = copied; changes = n })
    ((feed ++ items.Change change ∷ []) ++ sent_changes made)) (plus_one changes (length made))
    (moves_fed past pages copied (changes + 1) mid new (feed ++ items.Change change ∷ []) made
    (change_fed rows mid (λ key. is_quiet key past) (λ key. is_quiet key past)
    (record { pages = pages; copied = copied; changes = changes }) feed change loud_is.0 fed moves.1
    loud_is.1
    (λ k quiet. (quiet, loud past loud_is.0 k loud_is.2 quiet)))
    moves.2 louds.1))
  where
    plus_one : (n k : ℕ) → n + 1 + k ≡ n + suc k
    plus_one n k = omega arith

pub moves_sent : (rows new : Rows) (past : List Entry) (entry : Entry) (stage : Option Stage)
    (changes last later : ℕ) (feed : List Item) (made : List Change)
    → KeepsFeed rows past stage changes last feed → MovesRows made rows new
    → AreAbove last later made → NoneHushed past entry → AllByRecursion (IsLoud (entry ∷ past)) made
    → KeepsFeed new (entry ∷ past) stage (changes + length made) later (feed ++ sent_changes made)
moves_sent rows new past entry stage changes last later feed made keeps moves above hushed louds =
    record {
      copied = keeps.copied;
      ordered = moves_ordered last later keeps.copied feed made keeps.ordered above;
      leads = go stage keeps.leads;
    }
  where
    go : (o : Option Stage) → LeadTo rows past o changes keeps.copied feed
        → LeadTo new (entry ∷ past) o (changes + length made) keeps.copied
        (feed ++ sent_changes made)
    go None leads = tt
    go (Some s) leads = λ unswitched.
        let had = leads unswitched in (
          had.0,
          moves_fed (entry ∷ past) s.pages s.copied changes rows new feed made
              (same_fed rows rows (λ key. is_quiet key past) (λ key. is_quiet key (entry ∷ past))
              (record { pages = s.pages; copied = s.copied; changes = changes }) feed had.1
              (λ place. refl) hushed)
              moves louds,
        )

-- ---- a page is copied

pub copy_sent : (rows : Rows) (past : List Entry) (entry : Entry) (s t : Stage) (changes last : ℕ)
    (feed : List Item) (position : Position) (copied : List (Place × Row))
    → KeepsFeed rows past (Some s) changes last feed → s.switched ≡ false → HasCopied s t
    → position.0 ≡ last → AreRowsOf (s.copied + 1) copied
    → ((place : Place) → place.page ≡ s.copied + 1 → row_in copied place ≡ rows place)
    → NoneHushed past entry
    → KeepsFeed rows (entry ∷ past) (Some t) changes last
    (feed ++ PageCopy (s.copied + 1) position copied ∷ [])
copy_sent rows past entry s t changes last feed position copied keeps unswitched has at of_page
    rows_are hushed =
    let had = keeps.leads unswitched in
    record {
      copied = s.copied + 1;
      ordered = copy_ordered last s.copied feed position copied
          (subst (λ (n : ℕ). Ordered last n feed) had.0 keeps.ordered) at of_page;
      leads = λ still. (
        sym has.1,
        subst
            (λ (n : ℕ). Fed rows (λ key. is_quiet key (entry ∷ past))
            (record { pages = t.pages; copied = n; changes = changes })
            (feed ++ PageCopy (s.copied + 1) position copied ∷ [])) (sym has.1) (subst
            (λ (n : ℕ). Fed rows (λ key. is_quiet key (entry ∷ past))
            (record { pages = n; copied = s.copied + 1; changes = changes })
            (feed ++ PageCopy (s.copied + 1) position copied ∷ [])) (sym has.0)
            (copy_fed rows (λ key. is_quiet key (entry ∷ past))
            (record { pages = s.pages; copied = s.copied; changes = changes }) feed position copied
            (same_fed rows rows (λ key. is_quiet key past) (λ key. is_quiet key (entry ∷ past))
            (record { pages = s.pages; copied = s.copied; changes = changes }) feed had.1
            (λ place. refl) hushed)
            rows_are)),
      );
    }

-- ---- no row changes

pub entry_passed : (rows new : Rows) (past : List Entry) (entry : Entry) (old stage : Option Stage)
    (changes last later : ℕ) (feed : List Item)
    → KeepsFeed rows past old changes last feed → HasSamePages old stage → last ≤ later
    → ((place : Place) → new place ≡ rows place) → NoneHushed past entry
    → KeepsFeed new (entry ∷ past) stage changes later feed
entry_passed rows new past entry old stage changes last later feed keeps same le still hushed =
    record {
      copied = keeps.copied;
      ordered = later_ordered last later keeps.copied feed keeps.ordered le;
      leads = go old stage same keeps.leads;
    }
  where
    go : (o n : Option Stage) → HasSamePages o n → LeadTo rows past o changes keeps.copied feed
        → LeadTo new (entry ∷ past) n changes keeps.copied feed
    go o None is leads = tt
    go None (Some t) is leads = absurd is
    go (Some s) (Some t) is leads = λ unswitched.
        let had = leads (is.2 unswitched) in (
          had.0 ∙ sym is.1,
          subst
              (λ (n : ℕ). Fed new (λ key. is_quiet key (entry ∷ past))
              (record { pages = t.pages; copied = n; changes = changes }) feed) (sym is.1) (subst
              (λ (n : ℕ). Fed new (λ key. is_quiet key (entry ∷ past))
              (record { pages = n; copied = s.copied; changes = changes }) feed) (sym is.0)
              (same_fed rows new (λ key. is_quiet key past) (λ key. is_quiet key (entry ∷ past))
              (record { pages = s.pages; copied = s.copied; changes = changes }) feed had.1 still
              hushed)),
        )

pub switch_passed : (rows new : Rows) (past now : List Entry) (old : Option Stage) (s : Stage)
    (changes last later : ℕ) (feed : List Item) → KeepsFeed rows past old changes last feed
    → s.switched ≡ true → last ≤ later → KeepsFeed new now (Some s) changes later feed
switch_passed rows new past now old s changes last later feed keeps switched le = record {
  copied = keeps.copied;
  ordered = later_ordered last later keeps.copied feed keeps.ordered le;
  leads = λ unswitched. absurd (cc (switched, unswitched));
}
