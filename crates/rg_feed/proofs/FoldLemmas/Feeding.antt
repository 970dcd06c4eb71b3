-- What each item keeps of what the sender knows.
use Rattle.std.proofs.Common.{◌≡◌, ◌==◌, ℕ, ◌+◌, ◌<◌, ◌≤◌, Bool, true, false, List, [], ◌∷◌, ◌++◌}
use Rattle.std.proofs.Common.{Option, Some, None, refl, sym, ◌∙◌, ap, subst, if◌then◌else◌, arith}
use Rattle.std.proofs.Common.{length, length-append, inl, inr, ◌⊎◌}
use Rattle.std.specs.List.{AllByRecursion}
use Rattle.std.proofs.lemmas.Bool.{cases_lt, eq-eqb, eqb-true, ne_eqb}
use Rattle.std.proofs.lemmas.List.{append-nil}
use Rattle.rg_base.specs.declared.change.Change.{Change}
use Rattle.rg_base.specs.declared.options.Options.{Options}
use Rattle.rg_base.specs.declared.place.Place.{Place}
use Rattle.rg_base.specs.declared.position.Position.{Position}
use Rattle.rg_base.specs.declared.row.Row.{Row}
use Rattle.rg_base.specs.Place.{same_place}
use Rattle.rg_base.proofs.SamePlace.{same_place-true}
use Rattle.rg_base.proofs.Each.{Each-map}
use Rattle.rg_feed.specs.Fold.Last.{last_at, later_of}
use Rattle.rg_feed.specs.Fold.Fold.{changes, fold_at, row_in, since_begin}
use Rattle.rg_feed.specs.Fold.Lawful.{AreRowsOf, InOrder, IsWell, Lawful}
use Rattle.rg_feed.specs.Fold.Fed.{Fed, IsBelow, Ordered, Progress, SetsRow}
use Rattle.rg_feed.specs.declared.fold.item.Item.{Item}
use Rattle.rg_feed.specs.declared.fold.item.Item.TheVariants.{Begin, PageCopy, Booked}
use Rattle.rg_feed.specs.declared.fold.item.Item.TheVariants as items
use Rattle.rg_feed.specs.declared.fold.item.Stage.{Stage}
use Rattle.rg_feed.proofs.FoldLemmas.Folds.{all-push, changes-append, fold_at-push}
use Rattle.rg_feed.proofs.FoldLemmas.Folds.{lawful-push, since-append}

later_of-assoc : (a b c : Option Change) → later_of (later_of a b) c ≡ later_of a (later_of b c)
later_of-assoc None b c = refl
later_of-assoc (Some change) b c = refl

later_of-none : (a : Option Change) → later_of a None ≡ a
later_of-none None = refl
later_of-none (Some change) = refl

abbrev named : Place → Change → Option Change
named place change = if same_place change.home place then Some change else None

last_at-push : (place : Place) (cs : List Change) (change : Change)
    → last_at place (cs ++ change ∷ []) ≡ later_of (named place change) (last_at place cs)
last_at-push place [] change = sym (later_of-none (named place change))
last_at-push place (c ∷ cs) change =
    ap (λ later. later_of later (named place c)) (last_at-push place cs change)
    ∙ later_of-assoc (named place change) (last_at place cs) (named place c)

-- what a Begin leaves

module _ (options : Options) (pages : ℕ) (feed : List Item) where
  begin_none : [] ≡ since_begin (feed ++ Begin options pages ∷ [])
  begin_none = sym (since-append [] feed (Begin options pages ∷ []))

  pub begin_ordered : (last : ℕ) → Ordered last 0 (feed ++ Begin options pages ∷ [])
  begin_ordered last = record {
    lawful = subst Lawful begin_none tt;
    below = subst (AllByRecursion (IsBelow last 0)) begin_none tt;
  }

  pub begin_fed : (row_at : Place → Option Row) (is_quiet : ℕ → Bool)
      → ((place : Place) → place.page ≤ 0 → row_at place ≡ None)
      → ((place : Place) → pages < place.page → row_at place ≡ None)
      → Fed row_at is_quiet (record { pages = pages; copied = 0; changes = 0 })
      (feed ++ Begin options pages ∷ [])
  begin_fed row_at is_quiet low high = record {
    copied = λ place h. fold_at-push place feed (Begin options pages) ∙ sym (low place h);
    added = λ place h. fold_at-push place feed (Begin options pages) ∙ sym (high place h);
    counted = sym (ap (λ xs. length (changes xs)) begin_none);
    unnamed = λ place row e quiet. sym (ap (λ xs. last_at place (changes xs)) begin_none);
  }

-- an item that is no Begin, and keeps the order

module _ (last later copied more : ℕ) (feed : List Item) (item : Item)
    (joins : since_begin (feed ++ item ∷ []) ≡ since_begin feed ++ item ∷ []) where
  push_ordered : Ordered last copied feed → IsWell item
      → ((x : Item) → IsBelow last copied x → InOrder x item)
      → ((x : Item) → IsBelow last copied x → IsBelow later more x) → IsBelow later more item
      → Ordered later more (feed ++ item ∷ [])
  push_ordered ordered well order rises below =
      let xs = since_begin feed in record {
        lawful = subst Lawful (sym joins)
            (lawful-push xs item ordered.lawful well
            (Each-map (IsBelow last copied) (λ x. InOrder x item) order xs ordered.below));
        below = subst (AllByRecursion (IsBelow later more)) (sym joins)
            (all-push (IsBelow later more) xs item
            (Each-map (IsBelow last copied) (IsBelow later more) rises xs ordered.below) below);
      }

below_rises : (last later copied more : ℕ) → last ≤ later → copied ≤ more → (x : Item)
    → IsBelow last copied x → IsBelow later more x
below_rises last later copied more h g (Begin o n) below = tt
below_rises last later copied more h g (PageCopy n at rows) below =
    (omega (arith, below.0, h), omega (arith, below.1, g))
below_rises last later copied more h g (items.Change c) below = omega (arith, below, h)
below_rises last later copied more h g (Booked s) below = tt

pub later_ordered : (last later copied : ℕ) (feed : List Item) → Ordered last copied feed
    → last ≤ later → Ordered later copied feed
later_ordered last later copied feed ordered h = record {
  lawful = ordered.lawful;
  below = Each-map (IsBelow last copied) (IsBelow later copied)
      (below_rises last later copied copied h (omega arith)) (since_begin feed) ordered.below;
}

-- a change

behind_change : (last copied : ℕ) (change : Change) → last < change.position.0 → (x : Item)
    → IsBelow last copied x → InOrder x (items.Change change)
behind_change last copied change h (Begin o n) below = tt
behind_change last copied change h (PageCopy n at rows) below = omega (arith, below.0, h)
behind_change last copied change h (items.Change c) below = tt
behind_change last copied change h (Booked s) below = tt

pub change_ordered : (last copied : ℕ) (feed : List Item) (change : Change)
    → Ordered last copied feed → last < change.position.0
    → Ordered change.position.0 copied (feed ++ items.Change change ∷ [])
change_ordered last copied feed change ordered h =
    push_ordered last change.position.0 copied copied feed (items.Change change)
    (since-append [] feed (items.Change change ∷ [])) ordered tt
    (behind_change last copied change h)
    (below_rises last change.position.0 copied copied (omega (arith, h)) (omega arith))
    (omega arith)

module _ (old new : Place → Option Row) (was_quiet is_quiet : ℕ → Bool) (progress : Progress)
    (feed : List Item) (change : Change) (key : ℕ)
    (fed : Fed old was_quiet progress feed) (sets : SetsRow old new change.home change.after)
    (becomes : (row : Row) → change.after ≡ Some row → row.key ≡ key)
    (shrinks : (k : ℕ) → is_quiet k ≡ true → (was_quiet k ≡ true) × (k ≡ key → ⊥)) where
  joins : since_begin (feed ++ items.Change change ∷ [])
      ≡ since_begin feed ++ items.Change change ∷ []
  joins = since-append [] feed (items.Change change ∷ [])

  more : changes (since_begin (feed ++ items.Change change ∷ []))
      ≡ changes (since_begin feed) ++ change ∷ []
  more = ap changes joins ∙ changes-append (since_begin feed) (items.Change change ∷ [])

  change_row : (place : Place) → fold_at feed place ≡ old place
      → fold_at (feed ++ items.Change change ∷ []) place ≡ new place
  change_row place e =
      fold_at-push place feed (items.Change change) ∙ go (same_place change.home place) refl
    where
      go : (b : Bool) → same_place change.home place ≡ b
          → (if b then change.after else fold_at feed place) ≡ new place
      go true is = sym sets.here ∙ ap new (same_place-true change.home place is)
      go false is = e ∙ sym (sets.others place is)

  change_none : (place : Place) (row : Row) → new place ≡ Some row
      → (was_quiet row.key ≡ true) × (row.key ≡ key → ⊥) → (b : Bool)
      → same_place change.home place ≡ b
      → later_of (if b then Some change else None) (last_at place (changes (since_begin feed)))
      ≡ None
  change_none place row e quiet true is =
      absurd
      (quiet.1 (becomes row (sym sets.here ∙ ap new (same_place-true change.home place is) ∙ e)))
  change_none place row e quiet false is =
      fed.unnamed place row (sym (sets.others place is) ∙ e) quiet.0

  pub change_fed : Fed new is_quiet (record progress { changes = progress.changes + 1 })
      (feed ++ items.Change change ∷ [])
  change_fed = record {
    copied = λ place h. change_row place (fed.copied place h);
    added = λ place h. change_row place (fed.added place h);
    counted = ap length more ∙ length-append (changes (since_begin feed)) (change ∷ [])
        ∙ ap (λ n. n + 1) fed.counted;
    unnamed = λ place row e quiet. ap (last_at place) more
        ∙ last_at-push place (changes (since_begin feed)) change
        ∙ change_none place row e (shrinks row.key quiet) (same_place change.home place) refl;
  }

-- a copy of the next page

before_copy : (last copied : ℕ) (at : Position) (rows : List (Place × Row)) → at.0 ≡ last
    → (x : Item) → IsBelow last copied x → InOrder x (PageCopy (copied + 1) at rows)
before_copy last copied at rows e (Begin o n) below = tt
before_copy last copied at rows e (PageCopy n b more) below =
    ne_eqb n (copied + 1) (λ is. absurd (omega (arith, below.1, is)))
before_copy last copied at rows e (items.Change c) below = omega (arith, below, e)
before_copy last copied at rows e (Booked s) below = tt

pub copy_ordered : (last copied : ℕ) (feed : List Item) (at : Position) (rows : List (Place × Row))
    → Ordered last copied feed → at.0 ≡ last → AreRowsOf (copied + 1) rows
    → Ordered last (copied + 1) (feed ++ PageCopy (copied + 1) at rows ∷ [])
copy_ordered last copied feed at rows ordered e well =
    push_ordered last last copied (copied + 1) feed (PageCopy (copied + 1) at rows)
    (since-append [] feed (PageCopy (copied + 1) at rows ∷ [])) ordered well
    (before_copy last copied at rows e)
    (below_rises last last copied (copied + 1) (omega arith) (omega arith))
    (omega (arith, e), omega arith)

-- an item that is neither Begin nor Change adds no change

same_changes : (feed : List Item) (item : Item)
    → since_begin (feed ++ item ∷ []) ≡ since_begin feed ++ item ∷ [] → changes (item ∷ []) ≡ []
    → changes (since_begin (feed ++ item ∷ [])) ≡ changes (since_begin feed)
same_changes feed item joins none = ap changes joins ∙ changes-append (since_begin feed) (item ∷ [])
    ∙ ap (λ cs. changes (since_begin feed) ++ cs) none ∙ append-nil (changes (since_begin feed))

module _ (row_at : Place → Option Row) (is_quiet : ℕ → Bool) (progress : Progress)
    (feed : List Item) (at : Position) (rows : List (Place × Row)) where
  pub copy_fed : Fed row_at is_quiet progress feed
      → ((place : Place) → place.page ≡ progress.copied + 1 → row_in rows place ≡ row_at place)
      → Fed row_at is_quiet (record progress { copied = progress.copied + 1 })
      (feed ++ PageCopy (progress.copied + 1) at rows ∷ [])
  copy_fed fed copies = record {
    copied = λ place h. fold_at-push place feed item
        ∙ row place (λ off. fed.copied place (omega (arith, off, h)))
        ((progress.copied + 1) == place.page) refl;
    added = λ place h. fold_at-push place feed item
        ∙ row place (λ off. fed.added place h) ((progress.copied + 1) == place.page) refl;
    counted = ap length none ∙ fed.counted;
    unnamed = λ place r e quiet. ap (last_at place) none ∙ fed.unnamed place r e quiet;
  }
    where
      item : Item
      item = PageCopy (progress.copied + 1) at rows

      none : changes (since_begin (feed ++ item ∷ [])) ≡ changes (since_begin feed)
      none = same_changes feed (PageCopy (progress.copied + 1) at rows)
          (since-append [] feed (PageCopy (progress.copied + 1) at rows ∷ [])) refl

      row : (place : Place)
          → ((progress.copied + 1 ≡ place.page → ⊥) → fold_at feed place ≡ row_at place)
          → (b : Bool) → ((progress.copied + 1) == place.page) ≡ b
          → (if b then row_in rows place else fold_at feed place) ≡ row_at place
      row place rest true e = copies place (sym (eqb-true (progress.copied + 1) place.page e))
      row place rest false e = rest (λ is. cc (e, eq-eqb (progress.copied + 1) place.page is))

-- an entry of the utility

well_before : (stage : Stage) (x : Item) → InOrder x (Booked stage)
well_before stage (Begin o n) = tt
well_before stage (PageCopy n at rows) = tt
well_before stage (items.Change c) = tt
well_before stage (Booked s) = tt

pub booked_ordered : (last copied : ℕ) (feed : List Item) (stage : Stage) → Ordered last copied feed
    → Ordered last copied (feed ++ Booked stage ∷ [])
booked_ordered last copied feed stage ordered =
    push_ordered last last copied copied feed (Booked stage)
    (since-append [] feed (Booked stage ∷ [])) ordered tt (λ x below. well_before stage x)
    (λ x below. below) tt

pub booked_fed : (row_at : Place → Option Row) (is_quiet : ℕ → Bool) (progress : Progress)
    (feed : List Item) (stage : Stage)
    → Fed row_at is_quiet progress feed → Fed row_at is_quiet progress (feed ++ Booked stage ∷ [])
booked_fed row_at is_quiet progress feed stage fed =
    let none = same_changes feed (Booked stage) (since-append [] feed (Booked stage ∷ [])) refl in
    record {
      copied = λ place h. fold_at-push place feed (Booked stage) ∙ fed.copied place h;
      added = λ place h. fold_at-push place feed (Booked stage) ∙ fed.added place h;
      counted = ap length none ∙ fed.counted;
      unnamed = λ place r e quiet. ap (last_at place) none ∙ fed.unnamed place r e quiet;
    }

-- nothing is sent

pub same_fed : (old new : Place → Option Row) (was_quiet is_quiet : ℕ → Bool) (progress : Progress)
    (feed : List Item) → Fed old was_quiet progress feed → ((place : Place) → new place ≡ old place)
    → ((k : ℕ) → is_quiet k ≡ true → was_quiet k ≡ true) → Fed new is_quiet progress feed
same_fed old new was_quiet is_quiet progress feed fed same fewer = record {
  copied = λ place h. fed.copied place h ∙ sym (same place);
  added = λ place h. fed.added place h ∙ sym (same place);
  counted = fed.counted;
  unnamed = λ place row e quiet. fed.unnamed place row (sym (same place) ∙ e) (fewer row.key quiet);
}

pub all_copied :
    (row_at : Place → Option Row) (is_quiet : ℕ → Bool) (progress : Progress) (feed : List Item)
    → Fed row_at is_quiet progress feed → progress.copied ≡ progress.pages → (place : Place)
    → fold_at feed place ≡ row_at place
all_copied row_at is_quiet progress feed fed e place = go (cases_lt progress.copied place.page)
  where
    go : (progress.copied < place.page) ⊎ (place.page ≤ progress.copied)
        → fold_at feed place ≡ row_at place
    go (inl h) = fed.added place (omega (arith, e, h))
    go (inr h) = fed.copied place h
