-- A write goes on the trail of its unit: its records may be appended, and what they leave.
use Rattle.std.proofs.Common.{◌≡◌, ◌≤◌, ◌<◌, ◌+◌, ◌==◌, ℕ, Bool, false, List, [], ◌∷◌, ◌++◌, Option}
use Rattle.std.proofs.Common.{Some, length, set, refl, sym, ◌∙◌, ap, subst, ◌⊎◌, inl, inr, arith}
use Rattle.std.proofs.Common.{if◌then◌else◌}
use Rattle.std.specs.List.{AllByRecursion}
use Rattle.std.proofs.lemmas.Bool.{ne_eqb}
use Rattle.std.proofs.lemmas.Option.{same_Some}
use Rattle.rg_base.specs.declared.part.Part.{Part}
use Rattle.rg_base.specs.declared.row.Row.{Row}
use Rattle.rg_check.proofs.ChainLemmas.Records.{greatest_more, none_above}
use Rattle.rg_laws_crash.specs.LogChain.Next.{AreNext, IsNext}
use Rattle.rg_laws_crash.specs.LogChain.Tells.{Tells}
use Rattle.rg_laws_crash.proofs.LogChainLemmas.Appended.{count_more, ended_none}
use Rattle.rg_laws_crash.proofs.LogChainLemmas.Appended.{ended_other, of_other, owed_none}
use Rattle.rg_laws_crash.proofs.LogChainLemmas.Owing.{owes}
use Rattle.rg_laws_crash.proofs.LogChainLemmas.Telling.{records_tell}
use Rattle.rg_home.specs.declared.plan.Plan.{Plan}
use Rattle.rg_image.specs.Meaning.{current_of}
use Rattle.rg_image.specs.Pack.{log_bytes}
use Rattle.rg_image.specs.Rules.{HasSpace, IsOfTran, IsOpen, PartIn, greatest_tran, is_ended}
use Rattle.rg_image.specs.Rules.{limit_of, of_tran, owed}
use Rattle.rg_laws_log.specs.LogState.Act.{LogState, state, step}
use Rattle.rg_laws_log.specs.LogState.Act.{Change, Purge}
use Rattle.rg_laws_log.specs.LogState.Consistent.{IsConsistent}
use Rattle.rg_laws_log.specs.LogState.DeskLaws.{DeskWrites}
use Rattle.rg_laws_log.specs.LogState.Lawful.{Runs}
use Rattle.rg_laws_log.specs.LogState.Records.{acts_of}
use Rattle.rg_laws_log.specs.LogState.Write.{Write, write_of}
use Rattle.rg_laws_log.proofs.LogStateLemmas.Own.{own_other}
use Rattle.rg_log.specs.Kept.{Listed}
use Rattle.rg_log.proofs.Append.{log_bytes_more}
use Rattle.rg_laws_crash.specs.NewestPages.Newest.{AllNear}
use Rattle.rg_laws_crash.proofs.NewestPagesLemmas.Near.{there_near}
use Rattle.rg_laws_crash.proofs.SoundVolumeLemmas.ClosingSteps.{raised_there}
use Rattle.rg_record.specs.declared.record.Kind.TheVariants.{Purge as PurgeKind}
use Rattle.rg_record.specs.declared.record.Record.{Record}
use Rattle.rg_space.specs.Applied.{AllNext}
use Rattle.rg_space.specs.Carries.{AllFree, AllThere, PlanNext}
use Rattle.rg_laws_log.specs.PageBounds.Within.{IsWithin}
use Rattle.rg_engine.specs.Bytes.{end_bytes}
use Rattle.rg_engine.specs.Shows.{UnitsShown}
use Rattle.rg_engine.specs.Trails.{IsTrail, Trails}
use Rattle.rg_engine.specs.Units.{unit_at}
use Rattle.rg_engine.specs.Walks.{change_record}
use Rattle.rg_engine.specs.Wrote.{purge_record, records_cleared, records_wrote}
use Rattle.rg_engine.specs.declared.units.OpenUnit.{OpenUnit}
use Rattle.rg_engine.proofs.Appended.{acts_wrote, more_wrote, wrote_more}
use Rattle.rg_engine.proofs.Keys.{same_or_not}
use Rattle.rg_engine.proofs.Parts.{free_within}
use Rattle.rg_engine.proofs.Trails.{trail_cleared, trail_other, trail_written, unit_low, unit_open}
use Rattle.rg_engine.proofs.Trails.{unit_trail}
use Rattle.rg_engine.proofs.UnitSlots.{set_here, set_there}
use Rattle.rg_engine.proofs.UnitsWritten.{IsUnitFor}

-- ---- a log that was purged

cleared_owed : (rs : List Record) (parts : List Part) → owed (records_cleared rs parts) ≡ owed rs
cleared_owed rs [] = refl
cleared_owed rs (x ∷ parts) = owed_none rs (purge_record (length rs + 1) (x ∷ parts)) refl

cleared_greatest : (rs : List Record) (parts : List Part)
    → greatest_tran (records_cleared rs parts) ≡ greatest_tran rs
cleared_greatest rs [] = refl
cleared_greatest rs (x ∷ parts) =
    omega (arith, greatest_more rs (purge_record (length rs + 1) (x ∷ parts)))

cleared_of : (rs : List Record) (parts : List Part) (t : ℕ) → 1 ≤ t
    → of_tran t (records_cleared rs parts) ≡ of_tran t rs
cleared_of rs [] t low = refl
cleared_of rs (x ∷ parts) t low =
    of_other rs (purge_record (length rs + 1) (x ∷ parts)) t (λ e. omega (arith, e, low))

cleared_bytes : (rs : List Record) (parts : List Part)
    → log_bytes rs ≤ log_bytes (records_cleared rs parts)
cleared_bytes rs [] = omega arith
cleared_bytes rs (x ∷ parts) =
    omega (arith, log_bytes_more rs (purge_record (length rs + 1) (x ∷ parts)))

cleared_count : (rs : List Record) (parts : List Part) → AllThere (current_of rs).pages parts
    → (current_of (records_cleared rs parts)).pages ≡ (current_of rs).pages
cleared_count rs [] there = refl
cleared_count rs (x ∷ parts) there =
    count_more rs (purge_record (length rs + 1) (x ∷ parts)) (PurgeKind (x ∷ parts)) refl
    ∙ raised_there (current_of rs).pages (x ∷ parts) there

-- the Purge of a write may be appended, if there is one
abbrev IsPurgeNext : (limit pages : ℕ) → List Record → List Part → Type 0
IsPurgeNext limit pages rs [] = Unit {0}
IsPurgeNext limit pages rs (x ∷ parts) =
    IsNext limit pages rs (purge_record (length rs + 1) (x ∷ parts))

purge_next : (limit pages : ℕ) (rs : List Record) (parts : List Part)
    → (current_of rs).pages ≤ limit → AllThere (current_of rs).pages parts → AllFree parts
    → HasSpace pages (records_cleared rs parts) → IsPurgeNext limit pages rs parts
purge_next limit pages rs [] few there frees space = tt
purge_next limit pages rs (x ∷ parts) few there frees space = record {
  position = refl;
  links = refl;
  names = free_within (current_of rs).pages limit (x ∷ parts) few there frees;
  near = there_near (current_of rs).pages (x ∷ parts) there;
  space = space;
}

more_next : (limit pages : ℕ) (rs : List Record) (unit : OpenUnit) (purge : List Part) (w : Write)
    → IsPurgeNext limit pages rs purge
    → IsNext limit pages (records_cleared rs purge)
    (change_record (length (records_cleared rs purge) + 1) unit.tran.0 unit.last.0 w)
    → AreNext limit pages rs (more_wrote rs unit purge w)
more_next limit pages rs unit [] w purged change = (change, tt)
more_next limit pages rs unit (x ∷ parts) w purged change = (purged, (change, tt))

-- parts on the next page or before it, which are within the copy
next_near : (n limit : ℕ) (parts : List Part) → AllNext n parts
    → AllByRecursion (PartIn limit) parts → AllNear n parts
next_near n limit [] next within = tt
next_near n limit (x ∷ parts) next within =
    (within.0.0.0, next.0, next_near n limit parts next.1 within.1)

-- ---- the write

module _ (limit : ℕ) (log now : Listed) (set_aside : ℕ) (units : List (Option OpenUnit))
    (s : LogState) (n : ℕ) (unit next : OpenUnit) (plan : Plan) (after : Option Row)
    (good : IsConsistent limit s) (shown : UnitsShown log.records s units)
    (trails : Trails log set_aside units s) (own : IsUnitFor units s n unit)
    (place : n < length units) (lawful : DeskWrites limit s unit.tran.0 plan.before after plan)
    (within : IsWithin limit plan.home plan.parts) (there : PlanNext (length s.pages) plan)
    (tran : next.tran.0 ≡ unit.tran.0)
    (last : next.last.0 ≡ length (records_cleared log.records plan.purge) + 1)
    (records : now.records ≡ records_wrote log.records unit plan after)
    (same_pages : now.pages ≡ log.pages)
    (room : log_bytes now.records + now.reserved ≤ limit_of log.pages)
    (reserved : now.reserved ≡ log.reserved + 911 + end_bytes (unit_at units n)) where
  abbrev rs : List Record
  rs = log.records

  abbrev t : ℕ
  t = unit.tran.0

  abbrev w : Write
  w = write_of unit.tran.0 plan.home plan.before after plan.parts

  abbrev base : List Record
  base = records_cleared log.records plan.purge

  abbrev e : Record
  e = change_record (length (records_cleared log.records plan.purge) + 1) unit.tran.0 unit.last.0
      (write_of unit.tran.0 plan.home plan.before after plan.parts)

  abbrev pub s_after : LogState
  s_after = step (step s (Purge plan.purge))
      (Change (write_of unit.tran.0 plan.home plan.before after plan.parts))

  low : 1 ≤ t
  low = unit_low rs units s n unit own trails.tells shown trails.each

  mine : IsTrail base (step s (Purge plan.purge)) unit
  mine = trail_cleared rs s (step s (Purge plan.purge)) plan.purge unit low refl
      (unit_trail rs units s n unit own trails.tells shown trails.each)

  count : (current_of rs).pages ≡ length s.pages
  count = trails.tells.count

  purge_there : AllThere (current_of rs).pages plan.purge
  purge_there = subst (λ (k : ℕ). AllThere k plan.purge) (sym count) there.purge

  of_base : of_tran t base ≡ of_tran t rs
  of_base = cleared_of rs plan.purge t low

  -- the unit has begun, or has no record
  begun : (1 ≤ length (of_tran t base) × is_ended t base ≡ false × end_bytes (unit_at units n) ≡ 0)
      ⊎ ((of_tran t base ≡ []) × (t ≡ greatest_tran base + 1) × (end_bytes (unit_at units n) ≡ 23))
  begun = go own
    where
      go : IsUnitFor units s n unit
          →
          (1 ≤ length (of_tran t base) × is_ended t base ≡ false × end_bytes (unit_at units n) ≡ 0)
          ⊎ ((of_tran t base ≡ []) × (t ≡ greatest_tran base + 1)
          × (end_bytes (unit_at units n) ≡ 23))
      go (inl has) =
          let is : IsOpen t rs =
          unit_open rs units s n unit own trails.tells shown trails.each n unit has in
          inl (omega (arith, ap length of_base, is.1), ended_base is.2, ap end_bytes has)
        where
          ended_base : is_ended t rs ≡ false → is_ended t base ≡ false
          ended_base f = by_purge plan.purge
            where
              by_purge : (parts : List Part) → is_ended t (records_cleared rs parts) ≡ false
              by_purge [] = f
              by_purge (x ∷ parts) = ended_other rs (purge_record (length rs + 1) (x ∷ parts)) t
                  (λ g. omega (arith, g, low)) ∙ f
      go (inr h) =
          inr (
            of_base ∙ none_above t rs (omega (arith, trails.tells.top, h.1.number)),
            omega (arith, cleared_greatest rs plan.purge, trails.tells.top, h.1.number),
            ap end_bytes h.0,
          )

  is_of : IsOfTran base e
  is_of = record {
    some = low;
    drawn = λ none. drawn none begun;
    back = mine.last;
    going = going begun;
  }
    where
      drawn : of_tran t base ≡ []
          →
          (1 ≤ length (of_tran t base) × is_ended t base ≡ false × end_bytes (unit_at units n) ≡ 0)
          ⊎ ((of_tran t base ≡ []) × (t ≡ greatest_tran base + 1)
          × (end_bytes (unit_at units n) ≡ 23))
          → t ≡ greatest_tran base + 1
      drawn none (inl h) = absurd (omega (arith, ap length none, h.0))
      drawn none (inr h) = h.1

      going :
          (1 ≤ length (of_tran t base) × is_ended t base ≡ false × end_bytes (unit_at units n) ≡ 0)
          ⊎ ((of_tran t base ≡ []) × (t ≡ greatest_tran base + 1)
          × (end_bytes (unit_at units n) ≡ 23))
          → is_ended t base ≡ false
      going (inl h) = h.1
      going (inr h) = ended_none base t h.0

  -- what is owed and set aside is what is reserved
  end_is : (if length (of_tran t base) == 0 then 23 else 0) ≡ end_bytes (unit_at units n)
  end_is = go begun
    where
      go : (1 ≤ length (of_tran t base) × is_ended t base ≡ false × end_bytes (unit_at units n) ≡ 0)
          ⊎ ((of_tran t base ≡ []) × (t ≡ greatest_tran base + 1)
          × (end_bytes (unit_at units n) ≡ 23))
          → (if length (of_tran t base) == 0 then 23 else 0) ≡ end_bytes (unit_at units n)
      go (inl h) = ap (λ (b : Bool). if b then 23 else 0)
          (ne_eqb (length (of_tran t base)) 0 (λ z. omega (arith, z, h.0))) ∙ sym h.2
      go (inr h) = ap (λ (l : List Record). if length l == 0 then 23 else 0) h.0 ∙ sym h.2

  paid : owed (base ++ e ∷ []) + set_aside ≡ now.reserved
  paid = omega (
    arith,
    owes.change base e is_of refl,
    end_is,
    cleared_owed rs plan.purge,
    trails.paid,
    reserved,
  )

  space : HasSpace log.pages (base ++ e ∷ [])
  space = omega (arith, paid, room, ap log_bytes records)

  base_space : HasSpace log.pages base
  base_space = omega (arith, space, log_bytes_more base e, owes.change base e is_of refl)

  change_next : IsNext limit log.pages base e
  change_next = record {
    position = refl;
    links = record { some = low; back = mine.last };
    names = (within.home_is, within.parts_are);
    near =
        subst (λ (k : ℕ). AllNear k plan.parts)
        (sym (cleared_count rs plan.purge purge_there ∙ count))
        (next_near (length s.pages) limit plan.parts there.parts within.parts_are);
    space = space;
  }

  abbrev entries : List Record
  entries = more_wrote log.records unit plan.purge
      (write_of unit.tran.0 plan.home plan.before after plan.parts)

  -- the records of the write may be appended
  pub wrote_next : AreNext limit log.pages rs entries
  wrote_next =
      more_next limit log.pages rs unit plan.purge w
      (purge_next limit log.pages rs plan.purge (omega (arith, count, good.few)) purge_there
      there.frees base_space) change_next

  acts : acts_of [] entries
      ≡ Change w ∷ Rattle.rg_laws_log.specs.LogState.DeskLaws.purge_acts plan.purge
  acts = acts_wrote rs unit plan after

  tells : Tells now.records s_after
  tells =
      subst (λ (xs : List Record). Tells xs s_after) (sym (records ∙ wrote_more rs unit plan after))
      (subst (Tells (rs ++ entries)) (ap (state s) acts ∙ lawful.leaves)
      (records_tell limit log.pages rs entries s trails.tells good
      (subst (Runs limit s) (sym acts) lawful.runs) wrote_next))

  -- no other session has this transaction
  differs : (m : ℕ) (u : OpenUnit) → (m ≡ n → ⊥) → unit_at units m ≡ Some u → unit.tran.0 ≡ u.tran.0
      → ⊥
  differs m u apart has f = go own
    where
      go : IsUnitFor units s n unit → ⊥
      go (inl o) = apart (shown.apart m n u unit has o (sym f))
      go (inr h) = omega (arith, good.fresh u.tran.0 (shown.each m u has).live, f, h.1.number)

  there_too : (m : ℕ) (u : OpenUnit) → (m ≡ n → ⊥) → unit_at units m ≡ Some u
      → IsTrail (base ++ e ∷ []) s_after u
  there_too m u apart has =
      trail_other base (step s (Purge plan.purge)) s_after e u (differs m u apart has)
      (own_other u.tran.0 w s.writes (λ f. differs m u apart has f))
      (trail_cleared rs s (step s (Purge plan.purge)) plan.purge u
      (unit_open rs units s n unit own trails.tells shown trails.each m u has).0 refl
      (trails.each m u has))

  -- the trails that it leaves
  pub wrote_trails : Trails now set_aside (set units n (Some next)) s_after
  wrote_trails = record {
    tells = tells;
    each = λ m u has. subst (λ (xs : List Record). IsTrail xs s_after u) (sym records)
        (go m u has (same_or_not m n));
    paid = ap (λ (xs : List Record). owed xs + set_aside) records ∙ paid;
    space =
        subst (λ (k : ℕ). log_bytes now.records + now.reserved ≤ limit_of k) (sym same_pages) room;
  }
    where
      go : (m : ℕ) (u : OpenUnit) → unit_at (set units n (Some next)) m ≡ Some u
          → (m ≡ n) ⊎ (m ≡ n → ⊥) → IsTrail (base ++ e ∷ []) s_after u
      go m u has (inl f) =
          subst (IsTrail (base ++ e ∷ []) s_after)
          (same_Some next u
          (sym (ap (unit_at (set units n (Some next))) f ∙ set_here units n (Some next) place)
          ∙ has))
          (trail_written base (step s (Purge plan.purge)) unit next w tran last refl mine)
      go m u has (inr f) = there_too m u f (sym (set_there units n m (Some next) f) ∙ has)
