-- What holds between the moment when a run began and its end, of a volume that was counted.
use Rattle.std.proofs.Common.{◌≡◌, ◌≤◌, ◌+◌, ◌-◌, ◌++◌, ℕ, List, Option, Some, None, length, drop}
use Rattle.std.proofs.Common.{sym, ◌∙◌, ap, subst, arith, length-append}
use Rattle.std.specs.List.{AllByRecursion}
use Rattle.std.proofs.Math.Seq.{drop-append_seam}
use Rattle.rg_log.proofs.Ready.{quiet_reads}
use Rattle.rg_engine.specs.OnVolume.{IsTidyVolume, WasAllTidy}
use Rattle.rg_engine.specs.Volume.{WasTidy}
use Rattle.rg_image.specs.Log.{log_of}
use Rattle.rg_image.specs.Rules.{HasLogPages, IsTidyLog}
use Rattle.rg_image.proofs.Rules.{log_is_read}
use Rattle.rg_log.specs.Open.{IsQuiet}
use Rattle.rg_outside.specs.Capacities.{Capacities}
use Rattle.rg_outside.specs.Calls.{Call, Image, Told, read_of}
use Rattle.rg_outside.specs.Counts.{counted}
use Rattle.rg_outside.specs.Moments.{EachCall, EachImage, IfTold, read_at}
use Rattle.rg_record.specs.declared.record.Record.{Record}
use Rattle.rg_run.specs.Outside.{IfBoth, log_at}
use Rattle.rg_run.specs.Parts.{StaysSound}
use Rattle.rg_run.specs.declared.played.RunEnd.{RunEnd}
use Rattle.rg_run.proofs.Uncounted.{counted_so}

-- what was known before, with its calls so far taken as those before the count
abbrev begun_at : Told → Told
begun_at before = record before { start = length before.calls - 0 }

first_is : (old : Option Told) (before b : Told) → old ≡ Some before → counted old 0 ≡ Some b
    → b ≡ begun_at before
first_is old before b was is = cc (sym is ∙ ap (λ (o : Option Told). counted o 0) was)

-- the calls of a run come after those before it, and the count is theirs
record Follows (before t : Told) (n : ℕ) : Type 0 where
  pub fresh : List Call
  pub first : t.first ≡ before.first
  pub calls : t.calls ≡ fresh ++ before.calls
  pub start : length t.calls - n ≡ length before.calls

follows : (Kind : Call → Type 0) (old : Option Told) (before t : Told) (n : ℕ) → old ≡ Some before
    → EachCall (counted old 0) (Some (record t { start = length t.calls - n })) Kind
    → Follows before t n
follows Kind old before t n was made =
    let is = first_is old before made.0 was made.2 in
    record {
      fresh = made.1;
      first = ap (λ (x : Told). x.first) made.3 ∙ ap (λ (x : Told). x.first) is;
      calls = ap (λ (x : Told). x.calls) made.3 ∙ ap (λ (x : Told). made.1 ++ x.calls) is;
      start = ap (λ (x : Told). x.start) made.3 ∙ ap (λ (x : Told). x.start) is
          ∙ less_none (length before.calls);
    }
  where
    less_none : (k : ℕ) → k - 0 ≡ k
    less_none k = omega arith

-- what read when the count began
begun_reads : (n : ℕ) (before t : Told) → Follows before t n
    → read_at t (length t.calls - n) ≡ read_of before.first before.calls
begun_reads n before t h =
    ap (λ (k : ℕ). read_at t k) h.start
    ∙ ap (λ (first : Image). read_of first (drop (length t.calls - length before.calls) t.calls))
    h.first
    ∙ ap (λ (cs : List Call). read_of before.first (drop (length cs - length before.calls) cs))
    h.calls
    ∙ ap (λ (k : ℕ). read_of before.first (drop k (h.fresh ++ before.calls)))
    (left (length (h.fresh ++ before.calls)) (length h.fresh) (length before.calls)
    (length-append h.fresh before.calls))
    ∙ ap (read_of before.first) (drop-append_seam h.fresh before.calls)
  where
    left : (all a b : ℕ) → all ≡ a + b → all - b ≡ a
    left all a b e = omega (arith, e)

-- what is said of each image where the log read tidy when the count began
stored_at : (pages n : ℕ) (Q : Image → Type 0) (before t : Told) → Follows before t n
    → (WasTidy pages (record t { start = length t.calls - n }) → EachImage Q t)
    → IsTidyLog pages (read_of before.first before.calls) → EachImage Q t
stored_at pages n Q before t h all tidy =
    all (subst (λ (i : Image). IsTidyLog pages i) (sym (begun_reads n before t h)) tidy)

pub stored_out : (Kind : Call → Type 0) (pages n : ℕ) (Q : Image → Type 0) (old new : Option Told)
    → IfTold new (λ t. n ≤ length t.calls) → EachCall (counted old 0) (counted new n) Kind
    → IfTold (counted new n) (λ t. WasTidy pages t → EachImage Q t)
    → IfBoth old new
    (λ before t. IsTidyLog pages (read_of before.first before.calls) → EachImage Q t)
stored_out Kind pages n Q old None le made all = tt
stored_out Kind pages n Q old (Some t) le made all = λ few before was.
    let so = counted_so t n le few in
    stored_at pages n Q before t
    (follows Kind old before t n was
    (subst (λ (o : Option Told). EachCall (counted old 0) o Kind) so made))
    (subst (λ (o : Option Told). IfTold o (λ t. WasTidy pages t → EachImage Q t)) so all)

-- all of the volume read tidy when the count began, if it did when the run began
all_tidy : (capacities : Capacities) (n : ℕ) (before t : Told) → Follows before t n
    → IsTidyVolume capacities (read_of before.first before.calls)
    → WasAllTidy capacities (record t { start = length t.calls - n })
all_tidy capacities n before t h tidy =
    subst (λ (i : Image). IsTidyVolume capacities i) (sym (begun_reads n before t h)) tidy

-- what is said where all of the volume read tidy then
pub tidy_out :
    (Kind : Call → Type 0) (capacities : Capacities) (n : ℕ) (Q : Type 0) (old new : Option Told)
    → IfTold new (λ t. n ≤ length t.calls) → EachCall (counted old 0) (counted new n) Kind
    → IfTold (counted new n) (λ t. WasAllTidy capacities t → Q)
    → IfBoth old new (λ before t. IsTidyVolume capacities (read_of before.first before.calls) → Q)
tidy_out Kind capacities n Q old None le made all = tt
tidy_out Kind capacities n Q old (Some t) le made all = λ few before was tidy.
    let so = counted_so t n le few in
    subst (λ (o : Option Told). IfTold o (λ t. WasAllTidy capacities t → Q)) so all
    (all_tidy capacities n before t
    (follows Kind old before t n was
    (subst (λ (o : Option Told). EachCall (counted old 0) o Kind) so made)) tidy)

-- and of what a crash leaves then
pub sound_out : (Kind : Call → Type 0) (capacities now : Capacities) (n : ℕ) (end : RunEnd)
    (old new : Option Told) → now ≡ capacities → IfTold new (λ t. n ≤ length t.calls)
    → EachCall (counted old 0) (counted new n) Kind
    → IfTold (counted new n) (λ t. WasAllTidy now t → StaysSound now t end)
    → IfBoth old new
    (λ before t. IsTidyVolume capacities (read_of before.first before.calls) → StaysSound now t end)
sound_out Kind capacities now n end old None same le made all = tt
sound_out Kind capacities now n end old (Some t) same le made all = λ few before was tidy.
    let so = counted_so t n le few in
    let stays : StaysSound now (record t { start = length t.calls - n }) end =
    subst (λ (o : Option Told). IfTold o (λ t. WasAllTidy now t → StaysSound now t end)) so all
    (subst (λ (c : Capacities). WasAllTidy c (record t { start = length t.calls - n })) (sym same)
    (all_tidy capacities n before t
    (follows Kind old before t n was
    (subst (λ (o : Option Told). EachCall (counted old 0) o Kind) so made)) tidy)) in
    record { images = stays.images; undamaged = stays.undamaged }

-- what holds since the count began holds since the run began
pub since_out : (Kind : Call → Type 0) (P : ℕ → Told → Type 0) (n : ℕ) (old new : Option Told)
    → ((start counted : ℕ) (t : Told) → P start (record t { start = counted }) → P start t)
    → IfTold new (λ t. n ≤ length t.calls) → EachCall (counted old 0) (counted new n) Kind
    → IfTold (counted new n) (λ t. P t.start t)
    → IfBoth old new (λ before t. P (length before.calls) t)
since_out Kind P n old None f le made all = tt
since_out Kind P n old (Some t) f le made all = λ few before was.
    let so = counted_so t n le few in
    let h = follows Kind old before t n was
    (subst (λ (o : Option Told). EachCall (counted old 0) o Kind) so made) in
    subst (λ (start : ℕ). P start t) h.start
    (f (length t.calls - n) (length t.calls - n) t
    (subst (λ (o : Option Told). IfTold o (λ t. P t.start t)) so all))

-- ---- the log that was read

-- calls that write nothing leave what reads
pub same_reads : (before m : Told) (fresh : List Call)
    → m ≡ record before { calls = fresh ++ before.calls } → AllByRecursion IsQuiet fresh
    → read_of m.first m.calls ≡ read_of before.first before.calls
same_reads before m fresh is all = ap (λ (x : Told). read_of x.first x.calls) is
    ∙ (λ i s p. quiet_reads before.first fresh before.calls s p all i)

read_first : (Kind : Call → Type 0) (pages : ℕ) (rs : List Record) (old mid later : Option Told)
    (before : Told) → old ≡ Some before → (t : Told) → later ≡ Some t
    → EachCall (counted old 0) mid IsQuiet → EachCall mid later Kind
    → IfTold mid (λ m. HasLogPages pages (read_of m.first m.calls) rs) → log_at pages before ≡ rs
read_first Kind pages rs old None later before was t is quiet made has =
    absurd (cc ((subst (λ (o : Option Told). EachCall None o Kind) is made).2))
read_first Kind pages rs old (Some m) later before was t is quiet made has =
    let begun = first_is old before quiet.0 was quiet.2 in
    let same : read_of m.first m.calls ≡ read_of before.first before.calls =
    same_reads quiet.0 m quiet.1 quiet.3 quiet.4
    ∙ ap (λ (x : Told). read_of x.first x.calls) begun in
    ap (log_of pages) (sym same) ∙ log_is_read pages (read_of m.first m.calls) rs has

-- the records that were read at the opening are the log before the run
pub read_out : (Kind : Call → Type 0) (pages n : ℕ) (rs : List Record) (old mid new : Option Told)
    → IfTold new (λ t. n ≤ length t.calls) → EachCall (counted old 0) mid IsQuiet
    → EachCall mid (counted new n) Kind
    → IfTold mid (λ m. HasLogPages pages (read_of m.first m.calls) rs)
    → IfBoth old new (λ before t. log_at pages before ≡ rs)
read_out Kind pages n rs old mid None le quiet made has = tt
read_out Kind pages n rs old mid (Some t) le quiet made has = λ few before was.
    read_first Kind pages rs old mid (counted (Some t) n) before was
    (record t { start = length t.calls - n }) (counted_so t n le few) quiet made has

image_first : (Kind : Call → Type 0) (P : Image → Type 0) (old mid later : Option Told)
    (before : Told) → old ≡ Some before → (t : Told) → later ≡ Some t
    → EachCall (counted old 0) mid IsQuiet → EachCall mid later Kind
    → IfTold mid (λ m. P (read_of m.first m.calls)) → P (read_of before.first before.calls)
image_first Kind P old None later before was t is quiet made has =
    absurd (cc ((subst (λ (o : Option Told). EachCall None o Kind) is made).2))
image_first Kind P old (Some m) later before was t is quiet made has =
    let begun = first_is old before quiet.0 was quiet.2 in
    let same : read_of m.first m.calls ≡ read_of before.first before.calls =
    same_reads quiet.0 m quiet.1 quiet.3 quiet.4
    ∙ ap (λ (x : Told). read_of x.first x.calls) begun in
    subst P same has

-- what holds of the image that was read at the opening held of it before the run
pub image_out : (Kind : Call → Type 0) (P : Image → Type 0) (n : ℕ) (old mid new : Option Told)
    → IfTold new (λ t. n ≤ length t.calls) → EachCall (counted old 0) mid IsQuiet
    → EachCall mid (counted new n) Kind → IfTold mid (λ m. P (read_of m.first m.calls))
    → IfBoth old new (λ before t. P (read_of before.first before.calls))
image_out Kind P n old mid None le quiet made has = tt
image_out Kind P n old mid (Some t) le quiet made has = λ few before was.
    image_first Kind P old mid (counted (Some t) n) before was
    (record t { start = length t.calls - n }) (counted_so t n le few) quiet made has

-- one fact of both moments from another
pub both_weaken : (P Q : Told → Told → Type 0) (old new : Option Told)
    → ((before t : Told) → P before t → Q before t) → IfBoth old new P → IfBoth old new Q
both_weaken P Q old None f h = tt
both_weaken P Q old (Some t) f h = λ few before was. f before t (h few before was)

pub both_and : (P Q R : Told → Told → Type 0) (old new : Option Told)
    → ((before t : Told) → P before t → Q before t → R before t) → IfBoth old new P
    → IfBoth old new Q → IfBoth old new R
both_and P Q R old None f h k = tt
both_and P Q R old (Some t) f h k =
    λ few before was. f before t (h few before was) (k few before was)
