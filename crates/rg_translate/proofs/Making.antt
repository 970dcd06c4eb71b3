-- Changes made one after another: the rows that they leave, and what none of them names.
use Rattle.std.proofs.Common.{◌≡◌, ℕ, ◌+◌, ◌<◌, ◌≤◌, ◌==◌, ◌||◌, ◌&&◌, nat_le, map, zero, suc, Bool}
use Rattle.std.proofs.Common.{true, false, List, [], ◌∷◌, ◌++◌, Option, Some, None, is_some, refl}
use Rattle.std.proofs.Common.{sym, ◌∙◌, ap, subst, arith, get_or, if◌then◌else◌, length, take, drop}
use Rattle.std.proofs.lemmas.List.{take_more}
use Rattle.std.proofs.lemmas.Bool.{and_parts}
use Rattle.std.proofs.lemmas.Bool.Decides.{nat_tests}
use Rattle.std.specs.List.{All, Contains, list_all}
use Rattle.rg_feed.proofs.FoldLemmas.Batches.{none_kept}
use Rattle.rg_base.specs.declared.change.Change.{Change}
use Rattle.rg_base.specs.declared.place.Place.{Place}
use Rattle.rg_base.specs.declared.row.Row.{Row}
use Rattle.rg_feed.specs.Fold.Fed.{SetsRow}
use Rattle.rg_feed.specs.Fold.Fold.{changes, fold_to, since_begin}
use Rattle.rg_feed.specs.Fold.Last.{applied_at, changed_at, last_at, later_of}
use Rattle.rg_feed.specs.Fold.Lawful.{Lawful}
use Rattle.rg_feed.proofs.FoldLemmas.Batches.{batch, both_none}
use Rattle.rg_base.specs.Place.{same_place}
use Rattle.rg_base.proofs.SamePlace.{same_place-true, same_place-refl}
use Rattle.rg_model.specs.Layout.{are_rising, is_place_before}
use Rattle.rg_feed.specs.Ends.{Received}
use Rattle.rg_shadow.specs.Shade.{Applies, Shade, source_rows, target_of}
use Rattle.rg_translate.specs.Backlog.{next_changes, to_make}
use Rattle.rg_shadow.specs.declared.fault.ShadowFault.{ShadowFault}
use Rattle.rg_shadow.specs.declared.fault.ShadowFault.TheVariants.{NoMemory, NoSpace}
use Rattle.rg_translate.specs.Caught.{Caught, IsRefusedLast, IsRefusedOf, KeepTargets, SameCopy}
use Rattle.rg_translate.specs.Caught.{Unmoved}

applied_at-append : (place : Place) (xs ys : List Change) (row : Option Row)
    → applied_at place (xs ++ ys) row ≡ applied_at place ys (applied_at place xs row)
applied_at-append place [] ys row = refl
applied_at-append place (x ∷ xs) ys row = applied_at-append place xs ys (changed_at place x row)

sets_changed : (old new : Place → Option Row) (change : Change)
    → SetsRow old new change.home change.after → (place : Place)
    → new place ≡ changed_at place change (old place)
sets_changed old new change sets place = go (same_place change.home place) refl
  where
    go : (b : Bool) → same_place change.home place ≡ b
        → new place ≡ (if b then change.after else old place)
    go true same = ap new (sym (same_place-true change.home place same)) ∙ sets.here
    go false other = sets.others place other

-- one change more is made
pub made_more :
    (cs : List Change) (i : ℕ) (change : Change) (after : Option Row) (start old new : Shade)
    → i < length cs → change ≡ get_or cs i change → after ≡ change.after
    → ((place : Place)
    → source_rows old place ≡ applied_at place (take i cs) (source_rows start place))
    → Applies old change.home after new
    → (place : Place)
    → source_rows new place ≡ applied_at place (take (i + 1) cs) (source_rows start place)
made_more cs i change after start old new within is same rows applies place =
    let sets : SetsRow (source_rows old) (source_rows new) change.home change.after =
    subst (SetsRow (source_rows old) (source_rows new) change.home) same applies.rows in
    sets_changed (source_rows old) (source_rows new) change sets place
    ∙ ap (changed_at place change) (rows place)
    ∙ sym
    (ap (λ ds. applied_at place ds (source_rows start place))
    (take_more cs i change within ∙ ap (λ c. take i cs ++ c ∷ []) (sym is))
    ∙ applied_at-append place (take i cs) (change ∷ []) (source_rows start place))

-- places that changes do not name

off_home : (change : Change) (b : Bool) → (if b then Some change else None) ≡ None → b ≡ false
off_home change true e = absurd (cc (e))
off_home change false e = refl

parts_of : (place : Place) (c : Change) (cs : List Change) → last_at place (c ∷ cs) ≡ None
    → (last_at place cs ≡ None) × (same_place c.home place ≡ false)
parts_of place c cs e =
    let parts = both_none (last_at place cs) (if same_place c.home place then Some c else None) e in
    (parts.0, off_home c (same_place c.home place) parts.1)

unnamed_each : (place : Place) (cs : List Change) (i : ℕ) (d : Change) → i < length cs
    → last_at place cs ≡ None → same_place (get_or cs i d).home place ≡ false
unnamed_each place [] i d within e = absurd (omega (arith, within))
unnamed_each place (c ∷ cs) zero d within e = (parts_of place c cs e).1
unnamed_each place (c ∷ cs) (suc i) d within e =
    unnamed_each place cs i d (omega (arith, within)) (parts_of place c cs e).0

pub unmoved_none : (old : Shade) (cs : List Change) → Unmoved old old cs
unmoved_none old cs =
    record { rows = λ source e. refl; targets = λ source e. refl; lie = λ source target e f. refl }

pub unmoved_more :
    (cs : List Change) (i : ℕ) (change : Change) (after : Option Row) (start old new : Shade)
    → i < length cs → change ≡ get_or cs i change → Unmoved start old cs
    → Applies old change.home after new → Unmoved start new cs
unmoved_more cs i change after start old new within is unmoved applies = record {
  rows = λ source e. applies.rows.others source (off source e) ∙ unmoved.rows source e;
  targets = λ source e. applies.targets source (off source e) ∙ unmoved.targets source e;
  lie = λ source target e f. applies.lie source target (off source e) (unmoved.targets source e ∙ f)
      ∙ unmoved.lie source target e f;
}
  where
    off : (source : Place) → last_at source cs ≡ None → same_place change.home source ≡ false
    off source e =
        ap (λ (c : Change). same_place c.home source) is ∙ unnamed_each source cs i change within e

pub unmoved_fewer : (old new : Shade) (cs ds : List Change)
    → ((source : Place) → last_at source cs ≡ None → last_at source ds ≡ None) → Unmoved old new ds
    → Unmoved old new cs
unmoved_fewer old new cs ds none unmoved = record {
  rows = λ source e. unmoved.rows source (none source e);
  targets = λ source e. unmoved.targets source (none source e);
  lie = λ source target e f. unmoved.lie source target (none source e) f;
}

-- changes that name no place are none
pub none_named : (cs : List Change) → ((place : Place) → last_at place cs ≡ None) → cs ≡ []
none_named [] none = refl
none_named (c ∷ cs) none =
    absurd (cc (sym (same_place-refl c.home) ∙ (parts_of c.home c cs (none c.home)).1))

-- homes that rise

before_other : (p q : Place) → is_place_before p q ≡ true → same_place q p ≡ false
before_other p q e = grind (arith, nat_tests, e)

before_another : (p q : Place) → is_place_before p q ≡ true → same_place p q ≡ false
before_another p q e = grind (arith, nat_tests, e)

abbrev homes_of : List Change → List Place
homes_of cs = map (λ (c : Change). c.home) cs

before_each : (place : Place) (cs : List Change) (k : ℕ) (d : Change) → k < length cs
    → list_all (λ later. is_place_before place later) (homes_of cs) ≡ true
    → is_place_before place (get_or cs k d).home ≡ true
before_each place [] k d within e = absurd (omega (arith, within))
before_each place (c ∷ cs) zero d within e =
    (and_parts (is_place_before place c.home)
    (list_all (λ later. is_place_before place later) (homes_of cs)) e).0
before_each place (c ∷ cs) (suc k) d within e =
    before_each place cs k d (omega (arith, within))
    (and_parts (is_place_before place c.home)
    (list_all (λ later. is_place_before place later) (homes_of cs)) e).1

-- none before a change names its home
none_before : (cs : List Change) (i : ℕ) (d : Change) → i < length cs
    → are_rising (homes_of cs) ≡ true → last_at (get_or cs i d).home (take i cs) ≡ None
none_before [] i d within rise = absurd (omega (arith, within))
none_before (c ∷ cs) zero d within rise = refl
none_before (c ∷ cs) (suc k) d within rise =
    let parts = and_parts (list_all (λ later. is_place_before c.home later) (homes_of cs))
    (are_rising (homes_of cs)) rise in
    ap (λ o. later_of o (if same_place c.home (get_or cs k d).home then Some c else None))
    (none_before cs k d (omega (arith, within)) parts.1)
    ∙ ap (λ (b : Bool). if b then Some c else None)
    (before_another c.home (get_or cs k d).home
    (before_each c.home cs k d (omega (arith, within)) parts.0))

-- targets of sources that have a row before and after

none_front : (place : Place) (xs : List Change) (c : Change) → last_at place (xs ++ c ∷ []) ≡ None
    → (last_at place xs ≡ None) × (same_place c.home place ≡ false)
none_front place [] c e = (refl, (parts_of place c [] e).1)
none_front place (x ∷ xs) c e =
    let first = parts_of place x (xs ++ c ∷ []) e in
    let rest = none_front place xs c first.0 in (
      ap (λ o. later_of o (if same_place x.home place then Some x else None)) rest.0
          ∙ ap (λ (b : Bool). if b then Some x else None) first.1,
      rest.1,
    )

-- a source that no change up to here names has its target
pub behind_more :
    (cs : List Change) (i : ℕ) (change : Change) (after : Option Row) (start old new : Shade)
    → i < length cs → change ≡ get_or cs i change
    → ((source : Place) → last_at source (take i cs) ≡ None
    → target_of old source ≡ target_of start source)
    → Applies old change.home after new
    → (source : Place) → last_at source (take (i + 1) cs) ≡ None
    → target_of new source ≡ target_of start source
behind_more cs i change after start old new within is behind applies source none =
    let parts = none_front source (take i cs) change
    (ap (last_at source)
    (sym (take_more cs i change within ∙ ap (λ c. take i cs ++ c ∷ []) (sym is))) ∙ none) in
    applies.targets source parts.1 ∙ behind source parts.0

pub stays_more :
    (cs : List Change) (i : ℕ) (change : Change) (after : Option Row) (start old new : Shade)
    → i < length cs → change ≡ get_or cs i change
    → ((source : Place) → last_at source (take i cs) ≡ None
    → target_of old source ≡ target_of start source)
    → (are_rising (homes_of cs) ≡ true → KeepTargets start old) → Applies old change.home after new
    → are_rising (homes_of cs) ≡ true → KeepTargets start new
stays_more cs i change after start old new within is behind stays applies rise source target e f =
    go (same_place change.home source) refl
  where
    none : last_at change.home (take i cs) ≡ None
    none = subst (λ (c : Change). last_at c.home (take i cs) ≡ None) (sym is)
        (none_before cs i change within rise)

    go : (b : Bool) → same_place change.home source ≡ b → target_of new source ≡ Some target
    go true same =
        let here : change.home ≡ source = same_place-true change.home source same in
        let had : target_of old change.home ≡ Some target =
        behind change.home none ∙ ap (target_of start) here ∙ e in
        let has : is_some after ≡ true =
        ap is_some (sym applies.rows.here) ∙ ap (λ p. is_some (source_rows new p)) here ∙ f in
        ap (target_of new) (sym here) ∙ applies.stays target had has
    go false other = applies.targets source other
        ∙ stays rise source target e (ap is_some (sym (applies.rows.others source other)) ∙ f)

-- the copy

pub copy_none : (old : Shade) → SameCopy old old
copy_none old =
    record { copy = refl; capacity = refl; positions = λ unlogged. unlogged; built = λ which e. e }

pub copy_more : (start old new : Shade) (source : Place) (after : Option Row) → SameCopy start old
    → Applies old source after new → SameCopy start new
copy_more start old new source after same applies = record {
  copy = applies.copy ∙ same.copy;
  capacity = applies.capacity ∙ same.capacity;
  positions = λ unlogged. applies.positions (same.positions unlogged);
  built = λ which e. applies.built which (same.built which e);
}

-- a batch

-- once the net of a batch is made, the new copy is caught up
pub caught_up : (old new : Shade) (inlet later : Received) (n : ℕ) (net : List Change)
    → Lawful (since_begin inlet.items) → Caught old inlet
    → n ≤ length (drop inlet.taken (changes (since_begin inlet.items))) → later.items ≡ inlet.items
    → later.taken ≡ inlet.taken + n
    → ((place : Place) (row : Option Row)
    → applied_at place net row ≡ applied_at place (to_make n inlet) row)
    → ((place : Place) → source_rows new place ≡ applied_at place net (source_rows old place))
    → Caught new later
caught_up old new inlet later n net lawful caught within items taken same rows place =
    let k : later.taken ≡ n + inlet.taken = omega (arith, taken) in
    rows place ∙ same place (source_rows old place)
    ∙ ap (applied_at place (to_make n inlet)) (caught place)
    ∙ sym
    (batch inlet.items n inlet.taken (drop inlet.taken (changes (since_begin inlet.items))) lawful
    refl within place)
    ∙ sym (ap (λ xs. fold_to xs later.taken place) items ∙ ap (λ m. fold_to inlet.items m place) k)

-- what no change of the batch names, none of its net does
pub unmoved_by : (old new : Shade) (inlet : Received) (n : ℕ) (net : List Change)
    → ((place : Place) → last_at place net ≡ last_at place (to_make n inlet)) → Unmoved old new net
    → Unmoved old new (next_changes n inlet)
unmoved_by old new inlet n net last unmoved =
    unmoved_fewer old new (next_changes n inlet) net
    (λ source e. last source ∙ none_kept source (since_begin inlet.items) (next_changes n inlet) e)
    unmoved

-- so it is where nothing is to be made
pub idle_by : (old new : Shade) (batch net : List Change)
    → ((place : Place) → last_at place net ≡ last_at place batch) → (net ≡ [] → new ≡ old)
    → batch ≡ [] → new ≡ old
idle_by old new batch net last idle none =
    idle (none_named net (λ place. last place ∙ ap (last_at place) none))

-- changes whose homes rise are each the last one of its home

pub none_later : (place : Place) (cs : List Change)
    → list_all (λ later. is_place_before place later) (map (λ (c : Change). c.home) cs) ≡ true
    → last_at place cs ≡ None
none_later place [] e = refl
none_later place (c ∷ cs) e =
    let parts = and_parts (is_place_before place c.home)
    (list_all (λ later. is_place_before place later) (map (λ (x : Change). x.home) cs)) e in
    ap (λ o. later_of o (if same_place c.home place then Some c else None))
    (none_later place cs parts.1)
    ∙ ap (λ (b : Bool). if b then Some c else None) (before_other place c.home parts.0)

last_of_home : (cs : List Change) (change : Change)
    → are_rising (map (λ (c : Change). c.home) cs) ≡ true → Contains cs change
    → last_at change.home cs ≡ Some change
last_of_home [] change rise (k, within, is) = absurd (omega (arith, within))
last_of_home (c ∷ cs) change rise (zero, within, is) =
    let parts =
    and_parts (list_all (λ later. is_place_before c.home later) (map (λ (x : Change). x.home) cs))
    (are_rising (map (λ (x : Change). x.home) cs)) rise in
    subst (λ (x : Change). last_at x.home (c ∷ cs) ≡ Some x) is
    (ap (λ o. later_of o (if same_place c.home c.home then Some c else None))
    (none_later c.home cs parts.0)
    ∙ ap (λ (b : Bool). if b then Some c else None) (same_place-refl c.home))
last_of_home (c ∷ cs) change rise (suc k, within, is) =
    let parts =
    and_parts (list_all (λ later. is_place_before c.home later) (map (λ (x : Change). x.home) cs))
    (are_rising (map (λ (x : Change). x.home) cs)) rise in
    ap (λ o. later_of o (if same_place c.home change.home then Some c else None))
    (last_of_home cs change parts.1 (k, omega (arith, within), is))

-- a change that is refused is the last one of its home in the batch
pub refused_by : (shadow : Shade) (batch net : List Change) (fault : ShadowFault)
    → are_rising (map (λ (c : Change). c.home) net) ≡ true
    → ((place : Place) → last_at place net ≡ last_at place batch) → IsRefusedOf shadow net fault
    → IsRefusedLast shadow batch fault
refused_by shadow batch net NoSpace rise last (change, within, refuses) =
    (change, sym (last change.home) ∙ last_of_home net change rise within, refuses)
refused_by shadow batch net NoMemory rise last refused = tt
