-- Reading parts one after the other, as a loop does.
use Rattle.std.proofs.Common.{◌≡◌, ℕ, suc, ◌-◌, ◌+◌, ◌≤◌, ◌<◌, List, [], ◌∷◌, ◌++◌, Option, Some}
use Rattle.std.proofs.Common.{None, refl, sym, ap, ◌∙◌, append_assoc, arith}
use Rattle.std.proofs.lemmas.List.{append-nil}
use Rattle.rg_base.specs.declared.part.Part.{Part}
use Rattle.rg_record.specs.declared.fault.RecordFault.{RecordFault}
use Rattle.rg_record.specs.declared.fault.RecordFault.TheVariants.{NotARecord, NoMemory}
use Rattle.rg_record.specs.Reading.{◌>>=◌, Refuses, part_at, parts_at}

-- what was read before, and what is still read
abbrev pub with_front : List Part → Option (List Part × List ℕ) → Option (List Part × List ℕ)
with_front front read = read >>= λ x. Some (front ++ x.0, x.1)

regroup : (front : List Part) (part : Part) (read : Option (List Part × List ℕ))
    → with_front front (read >>= λ x. Some (part ∷ x.0, x.1)) ≡ with_front (front ++ part ∷ []) read
regroup front part (Some x) = ap (λ (ps : List Part). Some (ps, x.1)) (simp append_assoc)
regroup front part None = refl

pub goes_on : (front : List Part) (count i : ℕ) (bytes : List ℕ) (part : Part) (after : List ℕ)
    (total : Option (List Part × List ℕ)) → i < count → part_at bytes ≡ Some (part, after)
    → with_front front (parts_at (count - i) bytes) ≡ total
    → with_front (front ++ part ∷ []) (parts_at (count - (i + 1)) after) ≡ total
unfolding parts_at
goes_on front count i bytes part after total lt h so_far =
    let k : count - i ≡ suc (count - (i + 1)) = omega arith in
    let one : with_front front (parts_at (count - i) bytes)
    ≡ with_front (front ++ part ∷ []) (parts_at (count - (i + 1)) after) =
    rw (k, h) (regroup front part (parts_at (count - (i + 1)) after)) in
    sym one ∙ so_far

pub ends : (fault : RecordFault) (front : List Part) (count i : ℕ) (bytes : List ℕ)
    (total : Option (List Part × List ℕ)) → i < count → Refuses fault (part_at bytes)
    → with_front front (parts_at (count - i) bytes) ≡ total → Refuses fault total
unfolding parts_at
ends NoMemory front count i bytes total lt h so_far = tt
ends NotARecord front count i bytes total lt h so_far =
    let k : count - i ≡ suc (count - (i + 1)) = omega arith in
    let one : with_front front (parts_at (count - i) bytes) ≡ None = rw (k, h) refl in
    sym so_far ∙ one

pub is_done : (front : List Part) (count i : ℕ) (bytes : List ℕ)
    (total : Option (List Part × List ℕ)) → count ≤ i
    → with_front front (parts_at (count - i) bytes) ≡ total → total ≡ Some (front, bytes)
unfolding parts_at
is_done front count i bytes total le so_far =
    let k : count - i ≡ 0 = omega arith in
    let one : with_front front (parts_at (count - i) bytes) ≡ Some (front, bytes) =
    rw k (ap (λ (ps : List Part). Some (ps, bytes)) (append-nil front)) in
    sym so_far ∙ one
