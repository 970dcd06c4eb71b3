-- The pages of both copies on an image, over calls and records.
use Rattle.std.proofs.Common.{◌≡◌, ◌≢◌, ◌≤◌, ◌==◌, ◌++◌, ℕ, Bool, true, false, if◌then◌else◌, List}
use Rattle.std.proofs.Common.{length, Option, Result, refl, sym, ◌∙◌, subst, arith}
use Rattle.rg_base.specs.declared.set.Set.{Set}
use Rattle.rg_base.specs.declared.set.Set.TheVariants.{Log, First, Second}
use Rattle.rg_outside.specs.Calls.{Call, FailedRead, FailedSync, FailedWrite, Image, Read, Refused}
use Rattle.rg_outside.specs.Calls.{Synced, Told, Wrote, effect_of, is_same_page}
use Rattle.rg_outside.specs.Capacities.{Capacities}
use Rattle.rg_outside.specs.Made.{MadeWrite, WritesIn}
use Rattle.rg_outside.specs.Moments.{EachCall, EachImage, HoldsThroughout, IfTold, put}
use Rattle.rg_outside.specs.declared.source.Failed.{Failed}
use Rattle.rg_outside.proofs.Every.{Turns, at_same, write_each}
use Rattle.rg_outside.proofs.Frame.{calls_each}
use Rattle.rg_outside.proofs.Run.{at_last}
use Rattle.rg_record.specs.declared.record.Record.{Record}
use Rattle.rg_laws_crash.specs.PageVersions.Versions.{Epoch, IsOnVolume as IsOnPage}
use Rattle.rg_laws_crash.proofs.PageVersionsLemmas.OnVolume.{stays_there}
use Rattle.rg_laws_crash.specs.SwitchRecord.Switched.{IsOldPage}
use Rattle.rg_base.specs.Copies.{other_of, set_of}
use Rattle.rg_engine.specs.OnVolume.{HasCopies}

-- ---- three sets

pub copy_apart : (copy : ℕ) → Log ≢ set_of copy
copy_apart copy = go (copy == 1)
  where
    go : (b : Bool) → Log ≢ (if b then First else Second)
    go true = λ e. cc (e)
    go false = λ e. cc (e)

pub copies_apart : (copy : ℕ) → set_of copy ≢ set_of (other_of copy)
copies_apart copy = go (copy == 1)
  where
    go : (b : Bool)
        → (if b then First else Second) ≢ (if (if b then 2 else 1) == 1 then First else Second)
    go true = λ e. cc (e)
    go false = λ e. cc (e)

-- ---- each page of a set

module _ (set : Set) (capacity : ℕ) (P : ℕ → List ℕ → Type 0) where
  abbrev EachPage : Image → Type 0
  EachPage i = (p : ℕ) → 1 ≤ p → p ≤ capacity → P p (i set p)

  -- a page was put in another set
  pub put_apart : (other : Set) (page : ℕ) (bytes : List ℕ) → other ≢ set → (i : Image) → EachPage i
      → EachPage (put i other page bytes)
  put_apart other page bytes differ i has =
      λ p one high. go p one high (is_same_page other page set p) refl
    where
      go : (p : ℕ) → 1 ≤ p → p ≤ capacity → (t : Bool) → is_same_page other page set p ≡ t
          → P p (put i other page bytes set p)
      go p one high true same =
          absurd (differ (at_same other set page p (λ s q. other ≡ s) same refl))
      go p one high false same =
          subst (λ (t : Bool). P p (if t then bytes else i set p)) (sym same) (has p one high)

  -- a page that may be there was put in this one
  pub put_here : (page : ℕ) (bytes : List ℕ) → P page bytes → (i : Image) → EachPage i
      → EachPage (put i set page bytes)
  put_here page bytes may i has = λ p one high. go p one high (is_same_page set page set p) refl
    where
      go : (p : ℕ) → 1 ≤ p → p ≤ capacity → (t : Bool) → is_same_page set page set p ≡ t
          → P p (put i set page bytes set p)
      go p one high true same = subst (λ (t : Bool). P p (if t then bytes else i set p)) (sym same)
          (at_same set set page p (λ s q. P q bytes) same may)
      go p one high false same =
          subst (λ (t : Bool). P p (if t then bytes else i set p)) (sym same) (has p one high)

-- ---- both copies

module _ (capacities : Capacities) (copy capacity : ℕ) (e : Epoch) (rs : List Record)
    (forced : ℕ) where
  abbrev Copies : Image → Type 0
  Copies i = HasCopies capacities copy capacity e rs forced i

  put_log : (page : ℕ) (bytes : List ℕ) → (s : Set) → s ≡ Log → (i : Image) → Copies i
      → Copies (put i s page bytes)
  put_log page bytes s is i has = record {
    own = put_apart (set_of copy) capacity (IsOnPage e rs forced) s page bytes
        (λ same. copy_apart copy (sym is ∙ same)) i has.own;
    other = put_apart (set_of (other_of copy)) _ (IsOldPage (other_of copy) forced) s page bytes
        (λ same. copy_apart (other_of copy) (sym is ∙ same)) i has.other;
  }

  in_turns : (call : Call) → WritesIn Log call → Turns Copies Copies (effect_of call)
  in_turns (Wrote s p b) is = (λ i has. has, λ i has. put_log p b s is i has)
  in_turns (FailedWrite s p b reads) is = (λ i has. has, λ i has. put_log p b s is i has)
  in_turns Read is = λ i has. has
  in_turns Synced is = λ i has. has
  in_turns FailedRead is = λ i has. has
  in_turns FailedSync is = λ i has. has
  in_turns Refused is = λ i has. has

  -- calls that write the log leave them at each moment
  pub copies_through : (old new : Option Told) → IfTold old (EachImage Copies)
      → EachCall old new (WritesIn Log) → HoldsThroughout old new (EachImage Copies)
  copies_through old new leaves made = calls_each Copies (WritesIn Log) old new in_turns leaves made

  pub copies_keep : (old new : Option Told) → IfTold old (EachImage Copies)
      → EachCall old new (WritesIn Log) → IfTold new (EachImage Copies)
  copies_keep old new leaves made =
      at_last (EachImage Copies) old new (copies_through old new leaves made)

  put_own : (page : ℕ) (bytes : List ℕ) → IsOnPage e rs forced page bytes → (i : Image) → Copies i
      → Copies (put i (set_of copy) page bytes)
  put_own page bytes may i has = record {
    own = put_here (set_of copy) capacity (IsOnPage e rs forced) page bytes may i has.own;
    other = put_apart (set_of (other_of copy)) _ (IsOldPage (other_of copy) forced) (set_of copy)
        page bytes (copies_apart copy) i has.other;
  }

  -- and so does the write of a page of the current copy
  pub copies_wrote :
      (old new : Option Told) (result : Result (Unit {0}) Failed) (page : ℕ) (bytes : List ℕ)
      → IfTold old (EachImage Copies) → IsOnPage e rs forced page bytes
      → MadeWrite result old (set_of copy) page bytes new → IfTold new (EachImage Copies)
  copies_wrote old new result page bytes leaves may made = write_each Copies Copies old new result
      (set_of copy) page bytes leaves made (λ i has. has) (put_own page bytes may)

-- records were appended, and the log was forced further
pub copies_more : (capacities : Capacities) (copy capacity : ℕ) (e : Epoch) (rs more : List Record)
    (old new : ℕ) (i : Image)
    → old ≤ length rs → old ≤ new → HasCopies capacities copy capacity e rs old i
    → HasCopies capacities copy capacity e (rs ++ more) new i
copies_more capacities copy capacity e rs more old new i high le has = record {
  own = λ p one last. stays_there e rs more p old new (i (set_of copy) p) high le
      (has.own p one last);
  other = λ p one last.
      let was = has.other p one last in
      let low = was.is.position in
      record {
        page = was.page;
        spells = was.spells;
        is = record {
          copy_is = was.is.copy_is;
          number = was.is.number;
          position = omega (arith, low, le);
        };
      };
}
