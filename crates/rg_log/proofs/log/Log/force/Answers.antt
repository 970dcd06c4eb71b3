use Rattle.std.proofs.Common.{◌≡◌, ◌≤◌, ℕ, List, length, refl, ◌∙◌, ap, subst, arith, Option, Some}
use Rattle.std.proofs.Common.{None}
use Rattle.rg_base.specs.declared.set.Set.TheVariants.{Log as LogSet}
use Rattle.rg_outside.specs.Calls.{Told}
use Rattle.rg_outside.specs.Made.{WritesIn}
use Rattle.rg_outside.specs.Moments.{IfTold, EachImage, HoldsThroughout}
use Rattle.rg_outside.proofs.Frame.{no_calls, calls_join}
use Rattle.rg_outside.proofs.Run.{begins, join, weaken}
use Rattle.rg_record.specs.declared.record.Record.{Record}
use Rattle.rg_image.specs.Kept.{AreEntries}
use Rattle.rg_image.specs.Log.{SpellsFrom, log_of}
use Rattle.rg_image.specs.Pack.{end_of, start}
use Rattle.rg_image.proofs.Decode.{whole_log}
use Rattle.rg_image.proofs.Entries.{all_fit, are_values}
use Rattle.rg_log.specs.Kept.{LeavesLog, Listed}
use Rattle.rg_log.proofs.log.Log.force.Goals as goal

lower : (capacity low low' : ℕ) (rs : List Record) → low ≤ low' → (t : Told)
    → EachImage (SpellsFrom capacity rs low') t → EachImage (SpellsFrom capacity rs low) t
lower capacity low low' rs le t each i is =
    let s = each i is in
    record { count = s.count; least = omega (arith, le, s.least); most = s.most; spells = s.spells }

-- the log goes from one state to another that has the same records
module _ (a b c : Option Told) (s l : Listed) (kept : l ≡ record s { forced = l.forced }) where
  abbrev Before : Type 0
  Before = LeavesLog a s.pages s.records s.forced

  abbrev Through : Option Told → Option Told → Listed → Type 0
  Through x y at = HoldsThroughout x y (EachImage (SpellsFrom at.pages at.records at.forced))

  -- what a step says, of the state that it started from
  moved : (P : ℕ → List Record → Type 0) → P l.pages l.records → P s.pages s.records
  moved P p =
      subst (λ r. P s.pages r) (ap (λ (x : Listed). x.records) kept)
      (subst (λ k. P k l.records) (ap (λ (x : Listed). x.pages) kept) p)

  through : s.forced ≤ l.forced → (Before → Through a b s)
      → (Before → LeavesLog b s.pages s.records l.forced)
      → (LeavesLog b l.pages l.records l.forced → Through b c l) → Before → Through a c s
  through le so_far ahead step before =
      let now : LeavesLog b s.pages s.records l.forced
      → HoldsThroughout b c (EachImage (SpellsFrom s.pages s.records l.forced)) =
      moved
      (λ k r. LeavesLog b k r l.forced → HoldsThroughout b c (EachImage (SpellsFrom k r l.forced)))
      step in
      join (EachImage (SpellsFrom s.pages s.records s.forced)) a b c (so_far before)
      (weaken (EachImage (SpellsFrom s.pages s.records l.forced))
      (EachImage (SpellsFrom s.pages s.records s.forced)) b c
      (lower s.pages s.forced l.forced s.records le) (now (ahead before)))

  further : (n : ℕ) → (Before → LeavesLog b s.pages s.records l.forced)
      → (LeavesLog b l.pages l.records l.forced → LeavesLog c l.pages l.records n) → Before
      → LeavesLog c s.pages s.records n
  further n ahead step before =
      let now : LeavesLog b s.pages s.records l.forced → LeavesLog c s.pages s.records n =
      moved (λ k r. LeavesLog b k r l.forced → LeavesLog c k r n) step in
      now (ahead before)

pub loop-self-init : goal.loop-self-init
loop-self-init g c = record {
  kept = refl;
  further = omega arith;
  capacities = refl;
  later = omega arith;
  moments = λ before. begins _ (g.V.Volume.seen c.args.volume.now).told before;
  ahead = λ before. before;
  only = no_calls (WritesIn LogSet) (g.V.Volume.seen c.args.volume.now).told;
  none = λ all. refl;
}

pub loop-self-preserved : goal.loop-self-preserved
loop-self-preserved g c =
    let was = c.loop-self.invariant in
    let records : length c.loop-self.self.records ≡ length c.args.self.now.records =
    ap (λ (l : Listed). length l.records) was.kept in
    record {
      kept = c.step.ensures.kept
          ∙ ap (λ (s : Listed). record s { forced = c.step.new.self.forced }) was.kept;
      further = omega (arith, was.further, c.step.ensures.further);
      capacities = c.step.ensures.capacities ∙ was.capacities;
      later = omega (arith, was.later, c.step.ensures.cause.later);
      moments = through _ _ _ c.args.self.now c.loop-self.self was.kept was.further was.moments
          was.ahead c.step.ensures.moments;
      ahead = further _ _ _ c.args.self.now c.loop-self.self was.kept c.step.new.self.forced
          was.ahead c.step.ensures.ahead;
      only = calls_join (WritesIn LogSet) _ _ _ was.only c.step.ensures.only;
      none = λ all. absurd
          (omega (
            arith,
            all,
            was.further,
            records,
            c.loop-self-test.true,
            c.count_forced.ensures.is,
            c.count.ensures,
          ));
    }

pub returns-in-Err-clause-moments : goal.returns-in-Err-clause-moments
returns-in-Err-clause-moments g c =
    let was = c.loop-self.invariant in
    through _ _ _ c.args.self.now c.loop-self.self was.kept was.further was.moments was.ahead
    c.step.ensures.moments

pub returns-in-Err-clause-only : goal.returns-in-Err-clause-only
returns-in-Err-clause-only g c =
    calls_join (WritesIn LogSet) _ _ _ c.loop-self.invariant.only c.step.ensures.only

all_log : (told : Option Told) (s : Listed) (low : ℕ) → AreEntries s.records
    → (1 ≤ length s.records → (end_of start s.records).page ≤ s.pages) → low ≡ length s.records
    → LeavesLog told s.pages s.records low
    → IfTold told (EachImage (λ i. log_of s.pages i ≡ s.records))
all_log None s low entries high all leaves = tt
all_log (Some t) s low entries high all leaves =
    λ i is. whole_log s.pages low s.records i (all_fit s.records entries)
    (are_values s.records entries) high all (leaves i is)

pub returns-clause-log : goal.returns-clause-log
returns-clause-log g c =
    let was = c.loop-self.invariant in
    let records = ap (λ (l : Listed). l.records) was.kept in
    let len : length c.loop-self.self.records ≡ length c.args.self.now.records =
    ap (λ (l : Listed). length l.records) was.kept in
    let entries = subst AreEntries records c.count_forced.ensures.entries in
    let set : 1 ≤ length c.args.self.now.records
    → (end_of start c.args.self.now.records).page ≤ c.args.self.now.pages =
    subst (λ (l : Listed). 1 ≤ length l.records → (end_of start l.records).page ≤ l.pages) was.kept
    c.count_forced.ensures.set in
    λ before. all_log _ c.args.self.now c.loop-self.self.forced entries set
    (omega (
      arith,
      len,
      c.loop-self-test.false,
      c.count_forced.ensures.is,
      c.count_forced.ensures.within,
      c.count.ensures,
    )) (was.ahead before)
