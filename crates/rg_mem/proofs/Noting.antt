-- The list of calls that a volume in memory keeps, over one more call.
use Rattle.std.proofs.Common.{◌≡◌, ◌^◌, ◌%◌, ◌<◌, ◌≤◌, ◌+◌, ◌-◌, ℕ, zero, suc, inl, inr, replicate}
use Rattle.std.proofs.Common.{Bool, true, false, List, [], ◌∷◌, ◌++◌, Option, Some, None, is_some}
use Rattle.std.proofs.Common.{Ok, Err, length, map, reverse, slice_index_or, take, get_or, refl}
use Rattle.std.proofs.Common.{sym, ◌∙◌, ap, subst, arith, if◌then◌else◌}
use Rattle.std.proofs.lemmas.List.{get_or_read, take_more, map-append, reverse-append}
use Rattle.std.proofs.lemmas.List.{get_or_append_left}
use Rattle.std.proofs.lemmas.Bool.{cases_eq}
use Rattle.std.proofs.lemmas.List.Elements.{recursion_from_All}
use Rattle.std.proofs.Math.Seq.{get_or-append_seam}
use Rattle.std.specs.List.{All, AllByRecursion, Contains}
use Rattle.rg_base.specs.declared.set.Set.{Set}
use Rattle.rg_base.specs.declared.set.Set.TheVariants.{Log, First, Second}
use Rattle.rg_outside.specs.Calls.{Image, Call, Wrote, FailedWrite, Refused, Told, left_of}
use Rattle.rg_outside.specs.Made.{Made, then_call, IsWriteCall}
use Rattle.rg_outside.specs.declared.source.Failed.{Failed}
use Rattle.rg_outside.specs.Moments.{IfTold, IsImage}
use Rattle.rg_outside.specs.Capacities.{IsPage}
use Rattle.rg_outside.proofs.Images.{read_is_left}
use Rattle.rg_mem.specs.Listed.{content_at, image_of, call_of, calls_of, writes_needed, write_call}
use Rattle.rg_mem.specs.Listed.{noted_write}
use Rattle.rg_mem.specs.declared.noted.Noted.{Noted}
use Rattle.rg_mem.specs.declared.volume.Failing.{Failing}
use Rattle.rg_mem.specs.declared.noted.Noted.TheVariants as noted

pub calls_of-push : (writes : List (List ℕ)) (calls : List Noted) (call : Noted)
    → calls_of writes (calls ++ call ∷ []) ≡ call_of writes call ∷ calls_of writes calls
calls_of-push writes calls call = rw map-append (rw reverse-append refl)

-- the calls up to one, and that one
pub calls_of-take : (writes : List (List ℕ)) (calls : List Noted) (n : ℕ) (call : Noted)
    → n < length calls → call ≡ get_or calls n call
    → calls_of writes (take (n + 1) calls) ≡ call_of writes call ∷ calls_of writes (take n calls)
calls_of-take writes calls n call below is =
    ap (calls_of writes)
    (take_more calls n call below ∙ ap (λ (c : Noted). take n calls ++ c ∷ []) (sym is))
    ∙ calls_of-push writes (take n calls) call

call_of-more : (writes : List (List ℕ)) (bytes : List ℕ) (call : Noted)
    → writes_needed call ≤ length writes → call_of (writes ++ bytes ∷ []) call ≡ call_of writes call
call_of-more writes bytes noted.Read le = refl
call_of-more writes bytes noted.Synced le = refl
call_of-more writes bytes noted.FailedRead le = refl
call_of-more writes bytes noted.FailedSync le = refl
call_of-more writes bytes (noted.Wrote set page at) le =
    let lt : at < length writes = omega arith in
    ap (λ (b : List ℕ). Wrote set page b) (get_or_append_left writes (bytes ∷ []) [] at lt)
call_of-more writes bytes (noted.FailedWrite set page at reads) le =
    let lt : at < length writes = omega arith in
    ap (λ (b : List ℕ). FailedWrite set page b reads)
    (get_or_append_left writes (bytes ∷ []) [] at lt)

map-more : (writes : List (List ℕ)) (bytes : List ℕ) (calls : List Noted)
    → AllByRecursion (λ call. writes_needed call ≤ length writes) calls
    → map (call_of (writes ++ bytes ∷ [])) calls ≡ map (call_of writes) calls
map-more writes bytes [] all = refl
map-more writes bytes (call ∷ calls) all =
    ap (λ (rest : List Call). call_of (writes ++ bytes ∷ []) call ∷ rest)
    (map-more writes bytes calls all.1)
    ∙ ap (λ (c : Call). c ∷ map (call_of writes) calls) (call_of-more writes bytes call all.0)

call_of-noted_write : (writes : List (List ℕ)) (set : Set) (page at : ℕ) (fault : Option Failing)
    → call_of writes (noted_write set page at fault)
    ≡ write_call set page (slice_index_or writes at []) fault
call_of-noted_write writes set page at None = refl
call_of-noted_write writes set page at (Some failing) = refl

-- one more write, with its bytes
pub calls_of-write : (writes : List (List ℕ)) (bytes : List ℕ) (calls : List Noted) (set : Set)
    (page at : ℕ) (fault : Option Failing)
    → All (λ call. writes_needed call ≤ length writes) calls → at ≡ length writes
    → calls_of (writes ++ bytes ∷ []) (calls ++ noted_write set page at fault ∷ [])
    ≡ write_call set page bytes fault ∷ calls_of writes calls
calls_of-write writes bytes calls set page at fault all is =
    calls_of-push (writes ++ bytes ∷ []) calls (noted_write set page at fault)
    ∙ ap (λ (c : Call). c ∷ calls_of (writes ++ bytes ∷ []) calls)
    (call_of-noted_write (writes ++ bytes ∷ []) set page at fault
    ∙ ap (λ b. write_call set page b fault)
    (ap (λ (n : ℕ). slice_index_or (writes ++ bytes ∷ []) n []) is
    ∙ get_or-append_seam writes bytes [] []))
    ∙ ap (λ (rest : List Call). write_call set page bytes fault ∷ reverse rest)
    (map-more writes bytes calls
    (recursion_from_All (λ call. writes_needed call ≤ length writes) calls all))

-- a call is made where the volume goes on to tell, and where it ceases to
pub made_kept : (tells : Bool) (before after : Told) (call : Call) → after ≡ then_call before call
    → Made (if tells then Some before else None) call (if tells then Some after else None)
made_kept true before after call is = (before, refl, is)
made_kept false before after call is = tt

pub long : (n : ℕ) (calls : List Call) → n ≤ length (replicate n Refused ++ calls)
long zero calls = omega arith
long (suc n) calls = let h = long n calls in omega (arith, h)

pub made_last : (tells tells_on : Bool) (before after : Told) (call : Call) → tells ≡ true
    → (tells_on ≡ false → 2 ^ 64 - 1 ≤ length before.calls + 1) → after ≡ then_call before call
    → Made (if tells then Some before else None) call (if tells_on then Some after else None)
made_last true true before after call e far is = (before, refl, is)
made_last true false before after call e far is = far refl
made_last false tells_on before after call e far is = absurd (cc (e))

-- what is told, where it is
pub told_if : (tells : Bool) (t : Told) (P : Told → Type 0) → P t
    → IfTold (if tells then Some t else None) P
told_if true t P here = here
told_if false t P here = tt

-- a write that is to fail is kept as one that failed, and else as one that succeeded
pub write_failed : (fault : Option Failing) (e : Failed) (set : Set) (page : ℕ) (bytes : List ℕ)
    → is_some fault ≡ true → IsWriteCall (Err e) set page bytes (write_call set page bytes fault)
write_failed None e set page bytes some = absurd (cc (some))
write_failed (Some failing) e set page bytes some = (refl, refl, refl)

pub write_succeeded :
    (fault : Option Failing) (x : Unit {0}) (set : Set) (page : ℕ) (bytes : List ℕ)
    → is_some fault ≡ false → IsWriteCall (Ok x) set page bytes (write_call set page bytes fault)
write_succeeded None x set page bytes none = (refl, refl, refl)
write_succeeded (Some failing) x set page bytes none = absurd (cc (none))

-- a call that was refused whole leaves nothing
pub left_of-refused : (first : Image) (n : ℕ) (calls : List Call) (s : Set) (p : ℕ)
    → left_of first (replicate n Refused ++ calls) s p ≡ left_of first calls s p
left_of-refused first zero calls s p = refl
left_of-refused first (suc n) calls s p = left_of-refused first n calls s p

-- one more page, each with its content
pub pages-push : (pages : List (List ℕ)) (page : List ℕ) (content : ℕ → List ℕ) (n : ℕ)
    → length pages ≡ n → ((k : ℕ) → k < n → slice_index_or pages k [] ≡ content k)
    → page ≡ content n
    → (k : ℕ) → k < n + 1 → slice_index_or (pages ++ page ∷ []) k [] ≡ content k
pages-push pages page content n len each here k below = elim (cases_eq k n) [
  | inl same ↦ ap (λ (i : ℕ). slice_index_or (pages ++ page ∷ []) i []) (same ∙ sym len)
      ∙ get_or-append_seam pages page [] [] ∙ here ∙ ap content (sym same)
  | inr other ↦ let lt : k < length pages = omega arith in
      get_or_append_left pages (page ∷ []) [] k lt ∙ each k (omega arith)
]

-- an element in range, whatever stands for one past the end
in_range : (xs : List (List ℕ)) (n : ℕ) (d e : List ℕ) → n < length xs
    → slice_index_or xs n d ≡ slice_index_or xs n e
in_range [] n d e below = absurd (omega arith)
in_range (x ∷ xs) zero d e below = refl
in_range (x ∷ xs) (suc n) d e below = in_range xs n d e (omega arith)

below_length : (n len : ℕ) → 0 < len → n % len < len
below_length n len some = omega arith

-- the content with any number is one of them
pub content_among : (contents : List (List ℕ)) (n : ℕ) → 0 < length contents
    → Contains contents (content_at contents n)
content_among contents n some =
    let below : n % length contents < length contents = below_length n (length contents) some in (
      n % length contents,
      below,
      in_range contents (n % length contents) (content_at contents n) [] below,
    )

pub content_read : (contents : List (List ℕ)) (n : ℕ) (found : List ℕ) → 0 < length contents
    → found ≡ slice_index_or contents (n % length contents) found → found ≡ content_at contents n
content_read contents n found some is =
    get_or_read contents (n % length contents) found (below_length n (length contents) some) is []

-- an image of contents that each page might have been left, each by its number
pub image_of-picked : (t : Told) (number : Set → ℕ → ℕ) (log first second : List (List ℕ))
    → ((page : ℕ) → IsPage t.capacities Log page
    → slice_index_or log (page - 1) []
    ≡ content_at (left_of t.first t.calls Log page) (number Log page))
    → ((page : ℕ) → IsPage t.capacities First page
    → slice_index_or first (page - 1) []
    ≡ content_at (left_of t.first t.calls First page) (number First page))
    → ((page : ℕ) → IsPage t.capacities Second page
    → slice_index_or second (page - 1) []
    ≡ content_at (left_of t.first t.calls Second page) (number Second page))
    → IsImage t (image_of log first second)
image_of-picked t number log first second in_log in_first in_second s p in_set =
    let among = λ (set : Set). content_among (left_of t.first t.calls set p) (number set p)
    (let here = read_is_left t.first t.calls set p in omega (arith, here.1)) in
    elim s as (λ set. IsPage t.capacities set p
    → Contains (left_of t.first t.calls set p) (image_of log first second set p)) [
      | Log ↦ λ h. subst (Contains (left_of t.first t.calls Log p)) (sym (in_log p h)) (among Log)
      | First ↦
          λ h. subst (Contains (left_of t.first t.calls First p)) (sym (in_first p h)) (among First)
      | Second ↦ λ h. subst (Contains (left_of t.first t.calls Second p)) (sym (in_second p h))
          (among Second)
    ] in_set
