-- Pages are read one after the other.
use Rattle.std.proofs.Common.{◌≡◌, ℕ, ◌+◌, ◌≤◌, List, [], ◌∷◌, ◌++◌, Option, Some, None, Result}
use Rattle.std.proofs.Common.{refl, sym, subst, arith}
use Rattle.rg_base.specs.declared.set.Set.TheVariants.{Log}
use Rattle.rg_outside.specs.Calls.{Told, read_of}
use Rattle.std.proofs.Common.{Ok, Err, OnOk}
use Rattle.rg_outside.specs.Calls.{Call, Read, Synced, FailedRead, FailedSync, Refused}
use Rattle.rg_outside.specs.Made.{Made, MadeRead, MadeSync, IsReadCall, IsSyncCall}
use Rattle.rg_outside.proofs.Brings.{told_after}
use Rattle.rg_outside.proofs.Images.{one_only}
use Rattle.rg_outside.proofs.Frame.{one_call, no_calls}
use Rattle.rg_log.specs.Open.{IsCertain, IsQuiet}
use Rattle.rg_outside.specs.Moments.{EachCall, IfTold}
use Rattle.rg_outside.specs.declared.source.Failed.{Failed}
use Rattle.rg_outside.proofs.Failing.{read_reads}
use Rattle.rg_outside.proofs.Single.{anything}
use Rattle.rg_record.specs.declared.record.Record.{Record}
use Rattle.std.proofs.Common.{⊎_elim}
use Rattle.std.proofs.lemmas.List.Elements.{Contains-append_cases}
use Rattle.rg_image.specs.Kept.{AreEntries}
use Rattle.rg_image.specs.Rules.{IsNextPage, IsZero, ArePages, NoPage, OnePage, HasLogPages}
use Rattle.rg_image.specs.Rules.{BreaksLogPages}

abbrev pub Pages : Option Told → ℕ → List Record → Type 0
Pages told page rs = IfTold told (λ t. ArePages (read_of t.first t.calls) page rs)

abbrev pub Reads : Option Told → ℕ → List ℕ → Type 0
Reads told page bytes = IfTold told (λ t. bytes ≡ read_of t.first t.calls Log page)

pub no_page : (told : Option Told) (rs : List Record) → rs ≡ [] → Pages told 0 rs
no_page None rs none = tt
no_page (Some t) rs none = subst (ArePages (read_of t.first t.calls) 0) (sym none) NoPage

pub read_on :
    (mid new : Option Told) (result : Result (Unit {0}) Failed) (page : ℕ) (rs : List Record)
    → Pages mid page rs → MadeRead result mid new → Pages new page rs
read_on mid new result page rs pages made =
    read_reads (λ i. ArePages i page rs) mid new result pages made

pub one_page : (told : Option Told) (page : ℕ) (rs more : List Record) (bytes : List ℕ)
    → Pages told page rs → Reads told (page + 1) bytes
    → IsNextPage (page + 1) rs more bytes → Pages told (page + 1) (rs ++ more)
one_page None page rs more bytes pages reads next = tt
one_page (Some t) page rs more bytes pages reads next =
    OnePage page rs more pages (subst (IsNextPage (page + 1) rs more) reads next)

pub at_zero : (told : Option Told) (capacity page : ℕ) (rs : List Record) (bytes : List ℕ)
    → Pages told page rs → Reads told (page + 1) bytes
    → page ≤ capacity → IsZero bytes
    → IfTold told (λ t. HasLogPages capacity (read_of t.first t.calls) rs)
at_zero None capacity page rs bytes pages reads le zeros = tt
at_zero (Some t) capacity page rs bytes pages reads le zeros =
    record { pages = page; high = le; are = pages; stop = λ lt. subst IsZero reads zeros }

pub at_end : (told : Option Told) (capacity page : ℕ) (rs : List Record) → Pages told page rs
    → page ≡ capacity
    → IfTold told (λ t. HasLogPages capacity (read_of t.first t.calls) rs)
at_end None capacity page rs pages all = tt
at_end (Some t) capacity page rs pages all =
    record {
      pages = page;
      high = omega (arith, all);
      are = pages;
      stop = λ lt. absurd (omega (arith, lt, all));
    }

pub broken : (told : Option Told) (capacity page : ℕ) (rs : List Record) (bytes : List ℕ)
    → Pages told page rs → Reads told (page + 1) bytes
    → page + 1 ≤ capacity
    → (IsZero bytes → ⊥) × ((more : List Record) → IsNextPage (page + 1) rs more bytes → ⊥)
    → IfTold told (λ t. BreaksLogPages capacity (read_of t.first t.calls) (page + 1))
broken None capacity page rs bytes pages reads le other = tt
broken (Some t) capacity page rs bytes pages reads le other =
    record {
      before = rs;
      pages = page;
      next = refl;
      high = le;
      are = pages;
      used = λ z. other.0 (subst IsZero (sym reads) z);
      none = λ more next. other.1 more (subst (IsNextPage (page + 1) rs more) (sym reads) next);
    }

pub both_entries : (rs more : List Record) → AreEntries rs → AreEntries more
    → AreEntries (rs ++ more)
both_entries rs more a b x c = ⊎_elim (a x) (b x) (Contains-append_cases rs more x c)

sync_quiet : (result : Result (Unit {0}) Failed) (call : Call) → IsSyncCall result call
    → IsQuiet call
sync_quiet (Ok x) Synced is = tt
sync_quiet (Err e) FailedSync is = tt
sync_quiet (Err e) Refused is = tt
sync_quiet _ _ is = absurd is

read_quiet : (result : Result (Unit {0}) Failed) (call : Call) → IsReadCall result call
    → IsQuiet call
read_quiet (Ok x) Read is = tt
read_quiet (Err e) FailedRead is = tt
read_quiet (Err e) Refused is = tt
read_quiet _ _ is = absurd is

pub only_sync : (old new : Option Told) (result : Result (Unit {0}) Failed)
    → MadeSync result old new → EachCall old new IsQuiet
only_sync old new result made =
    one_call IsQuiet old old new (IsSyncCall result) (no_calls IsQuiet old) made (sync_quiet result)

pub only_read : (old mid new : Option Told) (result : Result (Unit {0}) Failed)
    → EachCall old mid IsQuiet → MadeRead result mid new → EachCall old new IsQuiet
only_read old mid new result so_far made =
    one_call IsQuiet old mid new (IsReadCall result) so_far made (read_quiet result)

after_sync : (old new : Option Told) (x : Unit {0}) (call : Call) → IsSyncCall (Ok x) call
    → Made old call new → IfTold new IsCertain
after_sync old new x Synced is made =
    told_after (λ t. Unit {0}) IsCertain old new Synced (anything old) made
    (λ t u s p bytes left. one_only (read_of t.first t.calls s p) bytes left)
after_sync old new x _ is made = absurd is

-- a sync makes certain what reads
pub sync_certain : (old new : Option Told) (result : Result (Unit {0}) Failed)
    → MadeSync result old new → OnOk result (IfTold new IsCertain)
sync_certain old new (Ok x) (call, is, made) = after_sync old new x call is made
sync_certain old new (Err e) made = tt

-- and a read changes nothing
pub read_certain : (mid new : Option Told) (result : Result (Unit {0}) Failed)
    → IfTold mid IsCertain → MadeRead result mid new → IfTold new IsCertain
read_certain mid new result sure (call, is, made) =
    told_after IsCertain IsCertain mid new call sure made (λ t here. keeps result call is t here)
  where
    keeps : (r : Result (Unit {0}) Failed) (c : Call) → IsReadCall r c → (t : Told) → IsCertain t
        → IsCertain (record t { calls = c ∷ t.calls })
    keeps (Ok x) Read is t here = here
    keeps (Err e) FailedRead is t here = here
    keeps (Err e) Refused is t here = here
    keeps _ _ is t here = absurd is
