-- What a crash leaves of the log, as records are appended and calls are made.
use Rattle.std.proofs.Common.{◌≡◌, ◌≤◌, ◌+◌, ◌-◌, ℕ, List, ◌++◌, length, drop, Option, None, Some}
use Rattle.std.proofs.Common.{sym, ◌∙◌, ap, subst, arith, length-append}
use Rattle.std.proofs.Math.Seq.{drop-append-add}
use Rattle.rg_base.specs.declared.set.Set.TheVariants.{Log}
use Rattle.rg_image.specs.Log.{SpellsFrom}
use Rattle.rg_image.specs.Rules.{IsTidyLog}
use Rattle.rg_image.proofs.Grow.{spells_more}
use Rattle.rg_log.specs.Kept.{LeavesLog, Listed}
use Rattle.rg_outside.specs.Calls.{Call, Image, Told, read_of}
use Rattle.rg_outside.specs.Made.{WritesIn}
use Rattle.rg_outside.specs.Moments.{EachCall, EachImage, IfTold, read_at}
use Rattle.rg_record.specs.declared.record.Record.{Record}
use Rattle.rg_engine.specs.Stored.{Grows}
use Rattle.rg_engine.specs.Volume.{CallsLog, HasCalls, Leaves, LeavesIfTidy, WasTidy}
use Rattle.rg_outside.specs.Volume.{VolumeSeen}

-- records that are appended leave what is spelled
left_more : (told : Option Told) (pages low : ℕ) (rs more : List Record)
    → LeavesLog told pages rs low → LeavesLog told pages (rs ++ more) low
left_more None pages low rs more h = tt
left_more (Some t) pages low rs more h = λ i is. spells_more pages low rs more i (h i is)

-- what spells all that is forced spells less, too
pub left_lower : (told : Option Told) (pages : ℕ) (rs : List Record) (low lower : ℕ) → lower ≤ low
    → LeavesLog told pages rs low → LeavesLog told pages rs lower
left_lower None pages rs low lower le h = tt
left_lower (Some t) pages rs low lower le h = λ i is. let s = h i is in
    record { count = s.count; least = omega (arith, s.least, le); most = s.most; spells = s.spells }

pub leaves_grown : (seen : VolumeSeen) (old new : Listed) → Grows old new → new.forced ≡ old.forced
    → Leaves seen old → Leaves seen new
leaves_grown seen old new grows forced h =
    subst (λ (n : ℕ). LeavesLog seen.told n new.records new.forced) (sym grows.pages)
    (subst (λ (rs : List Record). LeavesLog seen.told old.pages rs new.forced) (sym grows.records)
    (subst (λ (n : ℕ). LeavesLog seen.told old.pages (old.records ++ grows.more) n) (sym forced)
    (left_more seen.told old.pages old.forced old.records grows.more h)))

-- the moment when the count began stays as it was
pub began : (before : Told) (fresh : List Call) → before.start ≤ length before.calls
    → read_at (record before { calls = fresh ++ before.calls }) before.start
    ≡ read_at before before.start
began before fresh low =
    ap (λ (n : ℕ). read_of before.first (drop n (fresh ++ before.calls)))
    (sum (length (fresh ++ before.calls)) (length fresh) (length before.calls) before.start
    (length-append fresh before.calls) low)
    ∙ ap (read_of before.first)
    (drop-append-add fresh before.calls (length before.calls - before.start))
  where
    sum : (all m n s : ℕ) → all ≡ m + n → s ≤ n → all - s ≡ m + (n - s)
    sum all m n s e low = omega (arith, e, low)

-- calls are no fewer than before
pub has_more : (K : Call → Type 0) (old new : Option Told) (n : ℕ) → EachCall old new K
    → IfTold old (λ t. t.start + n ≤ length t.calls)
    → IfTold new (λ t. t.start + n ≤ length t.calls)
has_more K old None n made e = tt
has_more K None (Some after) n made e = absurd (cc (made.2))
has_more K (Some before) (Some after) n made e =
    let was : before ≡ made.0 = cc (made.2) in
    let there : made.0.start + n ≤ length made.0.calls =
    subst (λ (t : Told). t.start + n ≤ length t.calls) was e in
    let longer = length-append made.1 made.0.calls in
    omega (
      arith,
      there,
      longer,
      ap (λ (t : Told). t.start) made.3,
      ap (λ (t : Told). length t.calls) made.3,
    )

-- where the log read tidy when the count began
pub on_tidy : (K : Call → Type 0) (old new : Option Told) (pages : ℕ) (P Q : Told → Type 0) (n : ℕ)
    → EachCall old new K → IfTold old (λ t. t.start + n ≤ length t.calls)
    → (IfTold old P → IfTold new Q) → IfTold old (λ t. WasTidy pages t → P t)
    → IfTold new (λ t. WasTidy pages t → Q t)
on_tidy K old None pages P Q n made has goes h = tt
on_tidy K None (Some after) pages P Q n made has goes h = absurd (cc (made.2))
on_tidy K (Some before) (Some after) pages P Q n made has goes h = λ tidy.
    let was : before ≡ made.0 = cc (made.2) in
    let is : after ≡ record before { calls = made.1 ++ before.calls } = made.3
    ∙ ap (λ (t : Told). let u : Told = record t { calls = made.1 ++ t.calls } in u) (sym was) in
    let same : read_at after after.start ≡ read_at before before.start =
    ap (λ (t : Told). read_at t t.start) is ∙ began before made.1 (omega (arith, has)) in
    goes (h (subst (λ (i : Image). IsTidyLog pages i) same tidy))

pub on_calls : (P : Call → Type 0) (old new : Option Told) (log later : Listed) (n : ℕ)
    → EachCall old new P → IfTold old (λ t. t.start + n ≤ length t.calls) → later.pages ≡ log.pages
    → (LeavesLog old log.pages log.records log.forced
    → LeavesLog new later.pages later.records later.forced)
    → IfTold old
    (λ t. WasTidy log.pages t → EachImage (SpellsFrom log.pages log.records log.forced) t)
    → IfTold new
    (λ t. WasTidy later.pages t → EachImage (SpellsFrom later.pages later.records later.forced) t)
on_calls P old new log later n made has pages goes kept =
    subst
    (λ (k : ℕ). IfTold new
    (λ t. WasTidy k t → EachImage (SpellsFrom later.pages later.records later.forced) t))
    (sym pages)
    (on_tidy P old new log.pages (EachImage (SpellsFrom log.pages log.records log.forced))
    (EachImage (SpellsFrom later.pages later.records later.forced)) n made has goes kept)

-- what was left where the log read tidy goes on to be left
pub leaves_on : (old new : VolumeSeen) (log later : Listed) (n : ℕ) → CallsLog old new
    → HasCalls old n → later.pages ≡ log.pages → (Leaves old log → Leaves new later)
    → LeavesIfTidy old log → LeavesIfTidy new later
leaves_on old new log later n calls has pages goes kept =
    on_calls (WritesIn Log) old.told new.told log later n calls.only has pages goes kept
