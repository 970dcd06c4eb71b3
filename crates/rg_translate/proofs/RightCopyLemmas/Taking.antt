-- A new copy is loaded, batches of changes are taken, indexes are made, and more is received.
use Rattle.std.proofs.Common.{◌≡◌, ◌==◌, ℕ, ◌+◌, ◌≤◌, ◌*◌, ◌&&◌, ◌||◌, nat_le, Bool}
use Rattle.std.proofs.Common.{List, [], ◌∷◌, ◌++◌, Option, Some, None, if◌then◌else◌, refl, sym}
use Rattle.std.proofs.Common.{subst, ◌∙◌, ap, arith, drop, length, take}
use Rattle.std.specs.List.{AllByRecursion}
use Rattle.std.specs.List.Sorted.{IsPermutation}
use Rattle.std.proofs.Math.Seq.{take-add}
use Rattle.std.proofs.lemmas.List.{take-append-le}
use Rattle.rg_base.specs.declared.change.Change.{Change}
use Rattle.rg_base.specs.declared.options.Options.{Options}
use Rattle.rg_base.specs.declared.place.Place.{Place}
use Rattle.rg_base.specs.declared.row.Row.{Row}
use Rattle.rg_base.specs.declared.which.Which.{Which}
use Rattle.rg_base.specs.declared.which.Which.TheVariants.{Key, Clus, Cat}
use Rattle.rg_laws_pages.specs.ByteClaims.Claim.{claimed_all, nobody}
use Rattle.rg_feed.specs.Fold.Fold.{changes, copied_rows, fold_from, fold_to, since_begin}
use Rattle.rg_feed.specs.Fold.Fold.{up_to}
use Rattle.rg_feed.specs.Fold.Last.{last_at, later_of}
use Rattle.rg_feed.specs.Fold.Lawful.{Lawful, kept, passes_over}
use Rattle.rg_feed.specs.declared.fold.item.Item.{Item}
use Rattle.rg_feed.specs.declared.fold.item.Item.TheVariants.{Begin, PageCopy, Booked}
use Rattle.rg_feed.specs.declared.fold.item.Item.TheVariants as items
use Rattle.rg_feed.proofs.FoldLemmas.Folds.{changes-append, since-append}
use Rattle.rg_feed.proofs.FoldLemmas.Loaded.{copies_apart, load}
use Rattle.rg_feed.proofs.FoldLemmas.Permuted.{same_rows}
use Rattle.rg_feed.proofs.FoldLemmas.Batches.{both_none}
use Rattle.rg_home.specs.Pages.{slot_of}
use Rattle.rg_home.specs.Rows.{lies_at, row_at}
use Rattle.rg_home.specs.Slot.{Slot}
use Rattle.rg_translate.specs.Load.Loaded.{IsPacked}
use Rattle.rg_base.specs.Place.{same_place}
use Rattle.rg_page.specs.Content.{Content, slots_of}
use Rattle.rg_laws_utility.specs.CopyWeight.Weighed.{weigh_changes, weigh_feed}
use Rattle.rg_laws_utility.proofs.CopyWeightLemmas.Bounding.{first_kept}
use Rattle.rg_laws_utility.proofs.CopyWeightLemmas.Weighing.{weigh_permuted}
use Rattle.rg_reload.specs.Moved.{row_through}
use Rattle.rg_shadow.specs.Pieces.{IsMapped}
use Rattle.rg_shadow.specs.Shade.{Shade, home_rows, shade_slots, source_rows, target_of, with_stage}
use Rattle.rg_shadow.specs.declared.drafts.IndexStage.{IndexStage}
use Rattle.rg_shadow.specs.declared.fault.ShadowFault.TheVariants.{NoSpace}
use Rattle.rg_translate.specs.Caught.{ClaimsMore, IsFullBy, Unmoved}
use Rattle.rg_translate.specs.Laws.{AddsLater, IsLater}
use Rattle.rg_translate.proofs.Making.{unmoved_none}
use Rattle.rg_translate.proofs.Taking.{kept-append}
use Rattle.rg_translate.proofs.Weighing.{weigh-append}
use Rattle.rg_translate.specs.RightCopy.Caught.{IsCaughtUp}
use Rattle.rg_translate.proofs.Later.{same_so_far, since-later}

-- ---- the load

pub loaded : (options : Options) (rows : List (Place × Row)) (s : Shade) (feed : List Item)
    → Lawful (since_begin feed) → IsPermutation (copied_rows (since_begin feed)) rows
    → IsPacked options rows s
    → IsMapped s.targets (home_rows s) → IsCaughtUp options rows s s feed 0
loaded options rows s feed lawful permuted packed mapped =
    let copied = copied_rows (since_begin feed) in
    record {
      loaded = packed;
      mapped = mapped;
      unmoved = unmoved_none s [];
      caught = λ place. packed.sources place
          ∙ (same_rows copied rows permuted (copies_apart (since_begin feed) lawful)).1 place
          ∙ sym (load feed lawful place);
      claims = omega arith;
      idle = λ none. refl;
    }

-- ---- a batch

-- a place that none of these changes names
named_before : (place : Place) (xs ys : List Change) → last_at place (xs ++ ys) ≡ None
    → (last_at place xs ≡ None) × (last_at place ys ≡ None)
named_before place [] ys e = (refl, e)
named_before place (x ∷ xs) ys e =
    let parts =
    both_none (last_at place (xs ++ ys)) (if same_place x.home place then Some x else None) e in
    let rest = named_before place xs ys parts.0 in (
      ap (λ later. later_of later (if same_place x.home place then Some x else None)) rest.0
          ∙ parts.1,
      rest.1,
    )

-- some changes, and then some more
unmoved_both : (first old new : Shade) (xs ys : List Change) → Unmoved first old xs
    → Unmoved old new ys → Unmoved first new (xs ++ ys)
unmoved_both first old new xs ys one two = record {
  rows = λ source e. let none = named_before source xs ys e in
      two.rows source none.1 ∙ one.rows source none.0;
  targets = λ source e. let none = named_before source xs ys e in
      two.targets source none.1 ∙ one.targets source none.0;
  lie = λ source target e f.
      let none = named_before source xs ys e in
      two.lie source target none.1 (one.targets source none.0 ∙ f) ∙ one.lie source target none.0 f;
}

pub batch_taken : (options : Options) (rows : List (Place × Row)) (first old new : Shade)
    (feed : List Item) (taken n : ℕ)
    → IsCaughtUp options rows first old feed taken → IsMapped new.targets (home_rows new)
    → ((place : Place) → source_rows new place ≡ fold_to feed (taken + n) place)
    → Unmoved old new (take n (drop taken (changes (since_begin feed))))
    → ClaimsMore old new
    (kept (since_begin feed) (take n (drop taken (changes (since_begin feed)))))
    → (kept (since_begin feed) (take n (drop taken (changes (since_begin feed)))) ≡ [] → new ≡ old)
    → IsCaughtUp options rows first new feed (taken + n)
batch_taken options rows first old new feed taken n was mapped caught unmoved claims idle =
    let all = changes (since_begin feed) in
    record {
      loaded = was.loaded;
      mapped = mapped;
      unmoved = subst (Unmoved first new) (sym (take-add taken n all))
          (unmoved_both first old new (take taken all) (take n (drop taken all)) was.unmoved
          unmoved);
      caught = caught;
      claims =
          omega (
            arith,
            was.claims,
            claims,
            ap (λ cs. weigh_changes (kept (since_begin feed) cs)) (take-add taken n all),
            ap weigh_changes
                (kept-append (since_begin feed) (take taken all) (take n (drop taken all))),
            weigh-append (kept (since_begin feed) (take taken all))
                (kept (since_begin feed) (take n (drop taken all))),
          );
      idle = λ none.
          let some : n ≡ 0 = omega (arith, none) in
          ap (λ (s : Shade). shade_slots s)
          (idle (ap (λ (k : ℕ). kept (since_begin feed) (take k (drop taken all))) some))
          ∙ was.idle (omega (arith, none));
    }

-- ---- indexes

pub stage_made : (options : Options) (rows : List (Place × Row)) (first s : Shade)
    (feed : List Item) (taken : ℕ) (which : Which) (stage : IndexStage)
    → IsCaughtUp options rows first s feed taken
    → IsCaughtUp options rows first (with_stage which stage s) feed taken
stage_made options rows first s feed taken Key stage h = record {
  loaded = h.loaded;
  mapped = h.mapped;
  unmoved = record { rows = h.unmoved.rows; targets = h.unmoved.targets; lie = h.unmoved.lie };
  caught = h.caught;
  claims = h.claims;
  idle = h.idle;
}
stage_made options rows first s feed taken Clus stage h = record {
  loaded = h.loaded;
  mapped = h.mapped;
  unmoved = record { rows = h.unmoved.rows; targets = h.unmoved.targets; lie = h.unmoved.lie };
  caught = h.caught;
  claims = h.claims;
  idle = h.idle;
}
stage_made options rows first s feed taken Cat stage h = record {
  loaded = h.loaded;
  mapped = h.mapped;
  unmoved = record { rows = h.unmoved.rows; targets = h.unmoved.targets; lie = h.unmoved.lie };
  caught = h.caught;
  claims = h.claims;
  idle = h.idle;
}

-- ---- more items

-- what is added passes nothing over
later_passes : (xs more : List Item) (change : Change) → AllByRecursion IsLater more
    → passes_over (xs ++ more) change ≡ passes_over xs change
later_passes [] [] change later = refl
later_passes [] (Begin o n ∷ more) change later = absurd later.0
later_passes [] (PageCopy n at rows ∷ more) change later = absurd later.0
later_passes [] (items.Change c ∷ more) change later = later_passes [] more change later.1
later_passes [] (Booked s ∷ more) change later = later_passes [] more change later.1
later_passes (Begin o n ∷ xs) more change later = later_passes xs more change later
later_passes (PageCopy n at rows ∷ xs) more change later =
    ap (λ (b : Bool). (n == change.home.page && nat_le change.position.0 at.0) || b)
    (later_passes xs more change later)
later_passes (items.Change c ∷ xs) more change later = later_passes xs more change later
later_passes (Booked s ∷ xs) more change later = later_passes xs more change later

later_kept : (xs more : List Item) (cs : List Change) → AllByRecursion IsLater more
    → kept (xs ++ more) cs ≡ kept xs cs
later_kept xs more [] later = refl
later_kept xs more (c ∷ cs) later =
    ap (λ (b : Bool). if b then kept (xs ++ more) cs else c ∷ kept (xs ++ more) cs)
    (later_passes xs more c later)
    ∙ ap (λ ds. if passes_over xs c then ds else c ∷ ds) (later_kept xs more cs later)

pub more_received : (options : Options) (rows : List (Place × Row)) (first s : Shade)
    (feed more : List Item) (taken : ℕ)
    → AddsLater feed more → taken ≤ length (changes (since_begin feed))
    → IsCaughtUp options rows first s feed taken → IsCaughtUp options rows first s more taken
more_received options rows first s feed more taken adds within h =
    let since_is : since_begin more ≡ since_begin feed ++ adds.more =
    ap since_begin adds.items ∙ since-append [] feed adds.more
    ∙ since-later (since_begin feed) adds.more adds.later in
    let same : take taken (changes (since_begin more)) ≡ take taken (changes (since_begin feed)) =
    ap (λ xs. take taken (changes xs)) since_is
    ∙ ap (take taken) (changes-append (since_begin feed) adds.more)
    ∙ take-append-le taken (changes (since_begin feed)) (changes adds.more) within in
    record {
      loaded = h.loaded;
      mapped = h.mapped;
      unmoved = subst (Unmoved first s) (sym same) h.unmoved;
      caught = λ place.
          h.caught place
          ∙ sym
          (ap (λ xs. fold_from place None (up_to xs taken)) since_is
          ∙ same_so_far place None (since_begin feed) adds.more taken within adds.later);
      claims =
          omega (
            arith,
            h.claims,
            ap (λ cs. weigh_changes (kept (since_begin more) cs)) same,
            ap (λ xs. weigh_changes (kept xs (take taken (changes (since_begin feed))))) since_is,
            ap weigh_changes
                (later_kept (since_begin feed) adds.more (take taken (changes (since_begin feed)))
                adds.later),
          );
      idle = h.idle;
    }

-- ---- other pages with the same slots

pub same_slots : (options : Options) (rows : List (Place × Row)) (first s : Shade)
    (feed : List Item) (taken : ℕ) (pages : List Content)
    → slots_of pages ≡ shade_slots s → IsCaughtUp options rows first s feed taken
    → IsCaughtUp options rows first (record s { pages = pages }) feed taken
same_slots options rows first s feed taken pages same h =
    let at : List (List Slot) → Place → Option Row = λ slots place. row_at (slot_of slots) place in
    let row_of : List (List Slot) → Place → Option Row =
    λ slots source. row_through (at slots) (target_of s source) in
    record {
      loaded = h.loaded;
      mapped =
          subst (λ (slots : List (List Slot)). IsMapped s.targets (at slots)) (sym same) h.mapped;
      unmoved = record {
        rows = λ source none. ap (λ (slots : List (List Slot)). row_of slots source) same
            ∙ h.unmoved.rows source none;
        targets = h.unmoved.targets;
        lie = λ source target none is.
            ap (λ (slots : List (List Slot)). lies_at target (slot_of slots target)) same
            ∙ h.unmoved.lie source target none is;
      };
      caught = λ place. ap (λ (slots : List (List Slot)). row_of slots place) same ∙ h.caught place;
      claims = omega (arith, h.claims, ap (claimed_all nobody) same);
      idle = λ none. same ∙ h.idle none;
    }

-- ---- what its pages claim

pub caught_claims :
    (options : Options) (rows : List (Place × Row)) (first s : Shade) (feed : List Item) (taken : ℕ)
    → IsPermutation (copied_rows (since_begin feed)) rows
    → IsCaughtUp options rows first s feed taken
    → claimed_all nobody (shade_slots s) ≤ weigh_feed feed
caught_claims options rows first s feed taken permuted h =
    omega (
      arith,
      h.claims,
      h.loaded.claims,
      weigh_permuted (copied_rows (since_begin feed)) rows permuted,
      first_kept (since_begin feed) taken (changes (since_begin feed)),
    )

pub full_sent : (options : Options) (rows : List (Place × Row)) (first s : Shade) (feed : List Item)
    (taken n : ℕ) → IsPermutation (copied_rows (since_begin feed)) rows
    → IsCaughtUp options rows first s feed taken
    → IsFullBy s (kept (since_begin feed) (take n (drop taken (changes (since_begin feed)))))
    NoSpace
    → 3221 * s.capacity ≤ weigh_feed feed
full_sent options rows first s feed taken n permuted h full =
    let xs = since_begin feed in
    let all = changes xs in
    omega (
      arith,
      full,
      h.claims,
      h.loaded.claims,
      weigh_permuted (copied_rows xs) rows permuted,
      first_kept xs (taken + n) all,
      ap (λ cs. weigh_changes (kept xs cs)) (take-add taken n all),
      ap weigh_changes (kept-append xs (take taken all) (take n (drop taken all))),
      weigh-append (kept xs (take taken all)) (kept xs (take n (drop taken all))),
    )
