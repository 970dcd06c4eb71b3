-- The current copy covers what its records name.
--
-- 1. Each record that follows from those before it names pages of its copy's set alone. So the
--    number of pages, which is raised to each page that is named, stays within the set.
-- 2. The records since the last Switch name no page above that number.
use Rattle.std.proofs.Common.{◌≡◌, ◌≤◌, ◌⊎◌, ◌∙◌, ℕ, max, Bool, true, false, List, [], ◌∷◌, ◌++◌}
use Rattle.std.proofs.Common.{inl, refl, sym, ap, subst, append_assoc, arith, if◌then◌else◌}
use Rattle.std.specs.List.{AllByRecursion, Contains}
use Rattle.std.proofs.lemmas.List.{append-nil}
use Rattle.std.proofs.lemmas.List.Elements.{Contains-append_right}
use Rattle.rg_base.specs.declared.part.Part.{Part}
use Rattle.rg_image.specs.Kept.{AreEntries}
use Rattle.rg_image.specs.Meaning.{Current, current_after, current_from, current_of, raised}
use Rattle.rg_image.specs.Rules.{IsChain, NamesPages, PartIn, copy_capacity}
use Rattle.rg_image.proofs.Current.{current_more, raised_least}
use Rattle.rg_outside.specs.Capacities.{Capacities}
use Rattle.rg_record.specs.Applied.{parts_of}
use Rattle.rg_record.specs.Spelled.{IsKind}
use Rattle.rg_record.specs.declared.record.Kind.{Kind}
use Rattle.rg_record.specs.declared.record.Kind.TheVariants.{Change, Undo, Commit, RolledBack}
use Rattle.rg_record.specs.declared.record.Kind.TheVariants.{Purge, Switch}
use Rattle.rg_record.specs.declared.record.Record.{Record}
use Rattle.rg_redo.specs.Redo.{is_switch, since_last}
use Rattle.rg_space.specs.Carries.{AllThere}
use Rattle.rg_redo.specs.CurrentCopy.Laws.{CoversAll}

-- a number that is raised to the pages of parts

raised_within : (capacity : ℕ) (parts : List Part) (pages : ℕ)
    → AllByRecursion (PartIn capacity) parts → pages ≤ capacity → raised pages parts ≤ capacity
raised_within capacity [] pages all within = within
raised_within capacity (x ∷ parts) pages all within =
    raised_within capacity parts (max pages x.page) all.1 (omega (arith, all.0.0.1))

raised_there : (capacity n : ℕ) (parts : List Part) (pages : ℕ)
    → AllByRecursion (PartIn capacity) parts → raised pages parts ≤ n → AllThere n parts
raised_there capacity n [] pages all high = tt
raised_there capacity n (x ∷ parts) pages all high = (
  all.0.0.0,
  omega (arith, raised_least parts (max pages x.page)),
  raised_there capacity n parts (max pages x.page) all.1 high,
)

pub more_there : (m n : ℕ) (parts : List Part) → m ≤ n → AllThere m parts → AllThere n parts
more_there m n [] few there = tt
more_there m n (x ∷ parts) few there =
    (there.0, omega (arith, there.1), more_there m n parts few there.2)

-- what each record names, beside the current copy before it
abbrev Named : Capacities → Current → List Record → Type 0
Named capacities now [] = Unit {0}
Named capacities now (entry ∷ rs) = (NamesPages capacities now.copy entry.kind × IsKind entry.kind)
    × Named capacities (current_after now entry.kind) rs

named_from : (capacities : Capacities) (whole before rs : List Record) → whole ≡ before ++ rs
    → IsChain capacities whole → AreEntries whole → Named capacities (current_of before) rs
named_from capacities whole before [] is chain entries = tt
named_from capacities whole before (entry ∷ rs) is chain entries =
    let there : Contains (before ++ entry ∷ rs) entry =
    Contains-append_right before (entry ∷ rs) entry (0, omega arith, refl) in
    let own : Contains whole entry =
    subst (λ (xs : List Record). Contains xs entry) (sym is) there in (
      ((chain before rs entry is).pages, (entries entry own).spelled.0),
      subst (λ (now : Current). Named capacities now rs)
          (current_more (record { copy = 1; pages = 0 }) before entry)
          (named_from capacities whole (before ++ entry ∷ []) rs
          (is ∙ sym (append_assoc before (entry ∷ []) rs)) chain entries),
    )

-- the current copy is 1 or 2, and its pages are within its set
record HasSet (capacities : Capacities) (now : Current) : Type 0 where
  within : now.pages ≤ copy_capacity capacities now.copy
  copy : (now.copy ≡ 1) ⊎ (now.copy ≡ 2)

set_after : (capacities : Capacities) (now : Current) (kind : Kind)
    → NamesPages capacities now.copy kind → IsKind kind → HasSet capacities now
    → HasSet capacities (current_after now kind)
set_after capacities now (Change home before after parts) names spelled has =
    record {
      within = raised_within (copy_capacity capacities now.copy) parts now.pages names.1 has.within;
      copy = has.copy;
    }
set_after capacities now (Undo next home after parts) names spelled has =
    record {
      within = raised_within (copy_capacity capacities now.copy) parts now.pages names.1 has.within;
      copy = has.copy;
    }
set_after capacities now Commit names spelled has = has
set_after capacities now RolledBack names spelled has = has
set_after capacities now (Purge parts) names spelled has =
    record {
      within = raised_within (copy_capacity capacities now.copy) parts now.pages names has.within;
      copy = has.copy;
    }
set_after capacities now (Switch copy pages) names spelled has =
    record { within = names; copy = spelled }

set_from : (capacities : Capacities) (rs : List Record) (now : Current) → Named capacities now rs
    → HasSet capacities now → HasSet capacities (current_from now rs)
set_from capacities [] now named has = has
set_from capacities (entry ∷ rs) now named has =
    set_from capacities rs (current_after now entry.kind) named.1
    (set_after capacities now entry.kind named.0.0 named.0.1 has)

-- records that name no page but 1 to n
abbrev Within : (n : ℕ) → List Record → Type 0
Within n rs = AllByRecursion (λ (entry : Record). AllThere n (parts_of entry.kind)) rs

-- the records since the last Switch, after one more
abbrev since_more : List Record → Record → Bool → List Record
since_more since entry switch = if switch then [] else since ++ entry ∷ []

within_more : (m n : ℕ) (since : List Record) (entry : Record) → m ≤ n
    → AllThere n (parts_of entry.kind) → Within m since → Within n (since ++ entry ∷ [])
within_more m n [] entry few there within = (there, tt)
within_more m n (first ∷ since) entry few there within = (
  more_there m n (parts_of first.kind) few within.0,
  within_more m n since entry few there within.1,
)

module _ (capacities : Capacities) (now : Current) (since : List Record) (entry : Record)
    (within : Within now.pages since) where
  -- parts are on pages that the number is raised to
  within_parts : (parts : List Part) → parts_of entry.kind ≡ parts
      → AllByRecursion (PartIn (copy_capacity capacities now.copy)) parts
      → Within (raised now.pages parts) (since ++ entry ∷ [])
  within_parts parts are all =
      within_more now.pages (raised now.pages parts) since entry (raised_least parts now.pages)
      (subst (AllThere (raised now.pages parts)) (sym are)
      (raised_there (copy_capacity capacities now.copy) (raised now.pages parts) parts now.pages all
      (omega arith))) within

  within_none : parts_of entry.kind ≡ [] → Within now.pages (since ++ entry ∷ [])
  within_none none = within_more now.pages now.pages since entry (omega arith)
      (subst (AllThere now.pages) (sym none) tt) within

  within_after : (kind : Kind) → entry.kind ≡ kind → NamesPages capacities now.copy kind
      → Within (current_after now kind).pages (since_more since entry (is_switch kind))
  within_after (Change home before after parts) is names =
      within_parts parts (ap parts_of is) names.1
  within_after (Undo next home after parts) is names = within_parts parts (ap parts_of is) names.1
  within_after Commit is names = within_none (ap parts_of is)
  within_after RolledBack is names = within_none (ap parts_of is)
  within_after (Purge parts) is names = within_parts parts (ap parts_of is) names
  within_after (Switch copy pages) is names = tt

since_kept : (since rs : List Record) (entry : Record) (b : Bool)
    → since_more since entry b ++ rs ≡ if b then rs else since ++ entry ∷ rs
since_kept since rs entry true = refl
since_kept since rs entry false = append_assoc since (entry ∷ []) rs

covers_from : (capacities : Capacities) (rs : List Record) (now : Current) (since : List Record)
    → Named capacities now rs → Within now.pages since
    → Within (current_from now rs).pages (since_last (since ++ rs) rs)
covers_from capacities [] now since named within =
    subst (Within now.pages) (sym (append-nil since)) within
covers_from capacities (entry ∷ rs) now since named within =
    subst
    (λ (kept : List Record). Within (current_from (current_after now entry.kind) rs).pages
    (since_last kept rs)) (since_kept since rs entry (is_switch entry.kind)) (covers_from capacities
    rs (current_after now entry.kind) (since_more since entry (is_switch entry.kind)) named.1
    (within_after capacities now since entry within entry.kind refl named.0.0))

pub covers_all : (capacities : Capacities) (rs : List Record) → IsChain capacities rs
    → AreEntries rs → CoversAll capacities rs
covers_all capacities rs chain entries =
    let start : Current = record { copy = 1; pages = 0 } in
    let named : Named capacities start rs = named_from capacities rs [] rs refl chain entries in
    let has : HasSet capacities (current_from start rs) =
    set_from capacities rs start named (record { within = omega arith; copy = inl refl }) in
    record {
      can = covers_from capacities rs start [] named tt;
      within = has.within;
      copy = has.copy;
    }
