-- One item more is received: what the inlet keeps is that of the items with it.
use Rattle.std.proofs.Common.{◌≡◌, ℕ, ◌-◌, ◌≤◌, zero, suc, List, [], ◌∷◌, ◌++◌, Option, Some, None}
use Rattle.std.proofs.Common.{refl, sym, ◌∙◌, ap, drop, length, arith, length-append, length-drop}
use Rattle.std.proofs.lemmas.List.{append-nil}
use Rattle.rg_base.specs.declared.change.Change.{Change}
use Rattle.rg_base.specs.declared.options.Options.{Options}
use Rattle.rg_base.specs.declared.place.Place.{Place}
use Rattle.rg_base.specs.declared.position.Position.{Position}
use Rattle.rg_base.specs.declared.row.Row.{Row}
use Rattle.rg_feed.specs.Fold.Fold.{changes, page_copies, since_begin, stage_from}
use Rattle.rg_feed.specs.declared.fold.item.Item.{Item}
use Rattle.rg_feed.specs.declared.fold.item.Item.TheVariants.{Begin, PageCopy, Booked}
use Rattle.rg_feed.specs.declared.fold.item.Item.TheVariants as items
use Rattle.rg_feed.specs.declared.fold.item.Stage.{Stage}
use Rattle.rg_feed.proofs.FoldLemmas.Folds.{changes-append, page_copies-append, since-append}
use Rattle.rg_feed.specs.Ends.{Keeps, taken_of}

drop-append : {A : Type 0} (k : ℕ) (xs ys : List A) → k ≤ length xs
    → drop k (xs ++ ys) ≡ drop k xs ++ ys
drop-append zero xs ys h = refl
drop-append (suc k) [] ys h = absurd (omega (arith, h))
drop-append (suc k) (x ∷ xs) ys h = drop-append k xs ys (omega (arith, h))

drop-nil : {A : Type 0} (k : ℕ) → drop {A = A} k [] ≡ []
drop-nil zero = refl
drop-nil (suc k) = refl

stage-append : (stage : Option Stage) (xs ys : List Item)
    → stage_from stage (xs ++ ys) ≡ stage_from (stage_from stage xs) ys
stage-append stage [] ys = refl
stage-append stage (Begin o n ∷ xs) ys = stage-append stage xs ys
stage-append stage (PageCopy n at rows ∷ xs) ys = stage-append stage xs ys
stage-append stage (items.Change c ∷ xs) ys = stage-append stage xs ys
stage-append stage (Booked s ∷ xs) ys = stage-append (Some s) xs ys

module _ (feed copies : List Item) (backlog : List Change) (stage : Option Stage) where
  pub within : Keeps feed copies backlog stage
      → length backlog ≤ length (changes (since_begin feed))
  within keeps = omega (
    arith,
    ap length keeps.backlog,
    length-drop (taken_of feed backlog) (changes (since_begin feed)),
  )

  -- a Begin

  module _ (options : Options) (pages : ℕ) where
    none : since_begin (feed ++ Begin options pages ∷ []) ≡ []
    none = since-append [] feed (Begin options pages ∷ [])

    pub begin_keeps : Keeps feed copies backlog stage
        → Keeps (feed ++ Begin options pages ∷ []) [] [] stage
    begin_keeps keeps = record {
      copies = sym (ap page_copies none);
      backlog = sym
          (ap (λ xs. drop (length (changes xs) - length {A = Change} []) (changes xs)) none
          ∙ drop-nil {A = Change} (length {A = Change} [] - length {A = Change} []));
      stage = keeps.stage ∙ sym (stage-append None feed (Begin options pages ∷ []));
    }

    pub begin_taken : taken_of (feed ++ Begin options pages ∷ []) [] ≡ 0
    begin_taken = ap (λ xs. length (changes xs) - 0) none

  -- an item that is neither Begin nor Change

  module _ (item : Item) (joins : since_begin (feed ++ item ∷ []) ≡ since_begin feed ++ item ∷ [])
      (plain : changes (item ∷ []) ≡ []) where
    same : changes (since_begin (feed ++ item ∷ [])) ≡ changes (since_begin feed)
    same = ap changes joins ∙ changes-append (since_begin feed) (item ∷ [])
        ∙ ap (λ cs. changes (since_begin feed) ++ cs) plain
        ∙ append-nil (changes (since_begin feed))

    same_taken : taken_of (feed ++ item ∷ []) backlog ≡ taken_of feed backlog
    same_taken = ap (λ cs. length cs - length backlog) same

    same_backlog : Keeps feed copies backlog stage
        → backlog
        ≡ drop (taken_of (feed ++ item ∷ []) backlog) (changes (since_begin (feed ++ item ∷ [])))
    same_backlog keeps = keeps.backlog ∙ ap (λ cs. drop (length cs - length backlog) cs) (sym same)

  module _ (page : ℕ) (at : Position) (rows : List (Place × Row)) where
    joins_copy : since_begin (feed ++ PageCopy page at rows ∷ [])
        ≡ since_begin feed ++ PageCopy page at rows ∷ []
    joins_copy = since-append [] feed (PageCopy page at rows ∷ [])

    pub copy_keeps : Keeps feed copies backlog stage
        → Keeps (feed ++ PageCopy page at rows ∷ []) (copies ++ PageCopy page at rows ∷ []) backlog
        stage
    copy_keeps keeps = record {
      copies = ap (λ xs. xs ++ PageCopy page at rows ∷ []) keeps.copies
          ∙ sym
          (ap page_copies joins_copy
          ∙ page_copies-append (since_begin feed) (PageCopy page at rows ∷ []));
      backlog = same_backlog (PageCopy page at rows) joins_copy refl keeps;
      stage = keeps.stage ∙ sym (stage-append None feed (PageCopy page at rows ∷ []));
    }

    pub copy_taken : taken_of (feed ++ PageCopy page at rows ∷ []) backlog ≡ taken_of feed backlog
    copy_taken = same_taken (PageCopy page at rows) joins_copy refl

  module _ (booked : Stage) where
    joins_booked : since_begin (feed ++ Booked booked ∷ []) ≡ since_begin feed ++ Booked booked ∷ []
    joins_booked = since-append [] feed (Booked booked ∷ [])

    pub booked_keeps : Keeps feed copies backlog stage
        → Keeps (feed ++ Booked booked ∷ []) copies backlog (Some booked)
    booked_keeps keeps = record {
      copies = keeps.copies
          ∙ sym
          (ap page_copies joins_booked ∙ page_copies-append (since_begin feed) (Booked booked ∷ [])
          ∙ append-nil (page_copies (since_begin feed)));
      backlog = same_backlog (Booked booked) joins_booked refl keeps;
      stage = sym (stage-append None feed (Booked booked ∷ []));
    }

    pub booked_taken : taken_of (feed ++ Booked booked ∷ []) backlog ≡ taken_of feed backlog
    booked_taken = same_taken (Booked booked) joins_booked refl

  -- a change

  module _ (change : Change) where
    joins_change : since_begin (feed ++ items.Change change ∷ [])
        ≡ since_begin feed ++ items.Change change ∷ []
    joins_change = since-append [] feed (items.Change change ∷ [])

    more : changes (since_begin (feed ++ items.Change change ∷ []))
        ≡ changes (since_begin feed) ++ change ∷ []
    more = ap changes joins_change ∙ changes-append (since_begin feed) (items.Change change ∷ [])

    pub change_taken : Keeps feed copies backlog stage
        → taken_of (feed ++ items.Change change ∷ []) (backlog ++ change ∷ [])
        ≡ taken_of feed backlog
    change_taken keeps = omega (
      arith,
      ap length more,
      length-append (changes (since_begin feed)) (change ∷ []),
      length-append backlog (change ∷ []),
      within keeps,
    )

    pub change_keeps : Keeps feed copies backlog stage
        → Keeps (feed ++ items.Change change ∷ []) copies (backlog ++ change ∷ []) stage
    change_keeps keeps = record {
      copies = keeps.copies
          ∙ sym
          (ap page_copies joins_change
          ∙ page_copies-append (since_begin feed) (items.Change change ∷ [])
          ∙ append-nil (page_copies (since_begin feed)));
      backlog = ap (λ cs. cs ++ change ∷ []) keeps.backlog
          ∙ sym
          (drop-append (taken_of feed backlog) (changes (since_begin feed)) (change ∷ [])
          (omega (arith, within keeps)))
          ∙ ap (λ k. drop k (changes (since_begin feed) ++ change ∷ [])) (sym (change_taken keeps))
          ∙ ap (drop (taken_of (feed ++ items.Change change ∷ []) (backlog ++ change ∷ [])))
          (sym more);
      stage = keeps.stage ∙ sym (stage-append None feed (items.Change change ∷ []));
    }
