-- What holds of single pages, over one more call.
use Rattle.std.proofs.Common.{◌≡◌, ◌≢◌, ℕ, List, Option, Some, None, Result, Ok, Err, OnOk, sym}
use Rattle.std.proofs.Common.{◌∙◌, subst}
use Rattle.rg_base.specs.declared.set.Set.{Set}
use Rattle.rg_outside.specs.Calls.{Image, Told, read_of}
use Rattle.rg_outside.specs.Capacities.{Capacities, IsPage}
use Rattle.rg_outside.specs.Made.{MadeWrite, MadeSync}
use Rattle.rg_outside.specs.Moments.{IfTold, IsSure, EachImage, page_at, RespectsPages}
use Rattle.rg_outside.specs.declared.source.Failed.{Failed}
use Rattle.rg_outside.proofs.Every.{put_here, put_other, write_reads, sync_each_settles, told_both}
use Rattle.rg_outside.proofs.Every.{told_weaken}

-- of a page on which nothing is pending each image has the content that reads
pub sure_page : (told : Option Told) (capacities : Capacities) (set : Set) (page : ℕ)
    → IfTold told (λ t. t.capacities ≡ capacities) → IsPage capacities set page
    → IsSure told set page
    → IfTold told (EachImage (λ i. i set page ≡ page_at told set page))
sure_page None capacities set page own in_set sure = tt
sure_page (Some t) capacities set page own in_set sure =
    λ i is. sure (i set page) (is set page (subst (λ c. IsPage c set page) (sym own) in_set))

-- two facts of each image, as one that follows from them
pub each_both : (P Q R : Image → Type 0) (told : Option Told) → IfTold told (EachImage P)
    → IfTold told (EachImage Q) → ((i : Image) → P i → Q i → R i) → IfTold told (EachImage R)
each_both P Q R None p q go = tt
each_both P Q R (Some t) p q go = λ i is. go i (p i is) (q i is)

pub anything : (told : Option Told) → IfTold told (λ t. Unit {0})
anything None = tt
anything (Some t) = tt

-- a write that succeeded reads back, and another page reads as before
pub wrote_here : (mid new : Option Told) (set : Set) (page : ℕ) (bytes : List ℕ)
    → MadeWrite (Ok tt) mid set page bytes new
    → IfTold new (λ t. read_of t.first t.calls set page ≡ bytes)
wrote_here mid new set page bytes made = write_reads (λ i. Unit {0}) (λ i. i set page ≡ bytes) mid
    new set page bytes (anything mid) made (λ i h. put_here i set page bytes)

pub wrote_apart : (mid new : Option Told) (set : Set) (page other : ℕ) (bytes other_bytes : List ℕ)
    → page ≢ other → IfTold mid (λ t. read_of t.first t.calls set page ≡ bytes)
    → MadeWrite (Ok tt) mid set other other_bytes new
    → IfTold new (λ t. read_of t.first t.calls set page ≡ bytes)
wrote_apart mid new set page other bytes other_bytes apart before made =
    write_reads (λ i. i set page ≡ bytes) (λ i. i set page ≡ bytes) mid new set other other_bytes
    before made (λ i h. put_other i set other page other_bytes (λ e. apart (sym e)) ∙ h)

respects : (capacities : Capacities) (set : Set) (page : ℕ) (bytes : List ℕ)
    → IsPage capacities set page → (t : Told) → t.capacities ≡ capacities
    → RespectsPages t.capacities (λ i. i set page ≡ bytes)
respects capacities set page bytes in_set t own i j same has =
    sym (same set page (subst (λ c. IsPage c set page) (sym own) in_set)) ∙ has

-- a sync that succeeded leaves the content that read
pub synced_page : (mid new : Option Told) (result : Result (Unit {0}) Failed)
    (capacities : Capacities) (set : Set) (page : ℕ) (bytes : List ℕ)
    → IfTold mid (λ t. t.capacities ≡ capacities) → IsPage capacities set page
    → IfTold mid (λ t. read_of t.first t.calls set page ≡ bytes) → MadeSync result mid new
    → OnOk result (IfTold new (EachImage (λ i. i set page ≡ bytes)))
synced_page mid new (Err e) capacities set page bytes own in_set reads made = tt
synced_page mid new (Ok x) capacities set page bytes own in_set reads made =
    let Has = λ (i : Image). i set page ≡ bytes in
    sync_each_settles Has mid new
    (told_both (λ t. RespectsPages t.capacities Has) (λ t. Has (read_of t.first t.calls)) mid
    (told_weaken (λ t. t.capacities ≡ capacities) (λ t. RespectsPages t.capacities Has) mid
    (respects capacities set page bytes in_set) own) reads) made
