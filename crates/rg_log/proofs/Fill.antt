-- A log page is filled.
use Rattle.std.proofs.Common.{◌≡◌, ◌-◌, ℕ, ◌+◌, ◌≤◌, List, [], ◌∷◌, ◌++◌, length, take, drop}
use Rattle.std.proofs.Common.{get_or, sym, ◌∙◌, ap, arith}
use Rattle.std.specs.List.{flat_map}
use Rattle.std.proofs.lemmas.List.{drop_all, take_all, append-nil, length-take-le}
use Rattle.rg_record.specs.declared.record.Record.{Record}
use Rattle.rg_record.specs.Filled.{padded}
use Rattle.rg_image.specs.Kept.{AreEntries}
use Rattle.rg_image.specs.Pack.{fitting, log_bytes}
use Rattle.rg_image.specs.Page.{page_bytes, page_head, spelt}
use Rattle.rg_image.proofs.Decode.{contains_take}
use Rattle.rg_image.proofs.Pack.{fitting_le}
use Rattle.rg_image.proofs.Room.{fitting_take}
use Rattle.rg_image.proofs.Step.{contains_drop}

pub log_bytes_take : (rs : List Record) → fitting 0 rs ≡ length rs
    → log_bytes (take (fitting 0 rs) rs) ≡ log_bytes rs
log_bytes_take rs all = ap log_bytes (take_all (fitting 0 rs) rs (omega (arith, all)))

pub page_is : (p count used : ℕ) (rs : List Record) (x : Record) (out initial : List ℕ) (i : ℕ)
    → 1 ≤ length rs
    → count ≡ length rs → used ≡ log_bytes rs → length rs ≤ i
    → initial ≡ page_head p (get_or rs 0 x).position.0 count used
    → out ++ flat_map spelt (drop i rs) ≡ initial ++ flat_map spelt rs
    → padded out ≡ page_bytes p rs
unfolding page_bytes
page_is p count used [] x out initial i some c u past e so_far = absurd (omega (arith, some))
page_is p count used (r ∷ rs) x out initial i some c u past e so_far =
    let none : drop i (r ∷ rs) ≡ [] = drop_all i (r ∷ rs) past in
    let whole : out ≡ initial ++ flat_map spelt (r ∷ rs) =
    sym (append-nil out) ∙ ap (λ (l : List Record). out ++ flat_map spelt l) (sym none) ∙ so_far in
    let head : initial ≡ page_head p r.position.0 (length (r ∷ rs)) (log_bytes (r ∷ rs)) =
    e ∙ ap (λ (n : ℕ). page_head p r.position.0 n used) c
    ∙ ap (λ (n : ℕ). page_head p r.position.0 (length (r ∷ rs)) n) u in
    ap padded (whole ∙ ap (λ (l : List ℕ). l ++ flat_map spelt (r ∷ rs)) head)

-- the records of a page that begins at `from`
pub here_is : (rs : List Record) (from end : ℕ) → end ≡ from + fitting 0 (drop from rs)
    → take (end - from) (drop from rs) ≡ take (fitting 0 (drop from rs)) (drop from rs)
here_is rs from end e =
    let n : end - from ≡ fitting 0 (drop from rs) = omega (arith, e) in
    ap (λ (k : ℕ). take k (drop from rs)) n

pub here_length : (rs : List Record) (from end : ℕ) → end ≡ from + fitting 0 (drop from rs)
    → length (take (end - from) (drop from rs)) ≡ end - from
here_length rs from end e =
    length-take-le (end - from) (drop from rs) (omega (arith, e, fitting_le 0 (drop from rs)))

pub here_fits : (rs : List Record) (from end : ℕ) → end ≡ from + fitting 0 (drop from rs)
    → fitting 0 (take (end - from) (drop from rs)) ≡ length (take (end - from) (drop from rs))
here_fits rs from end e =
    ap (fitting 0) (here_is rs from end e) ∙ fitting_take 0 (drop from rs)
    ∙ omega (arith, here_length rs from end e, e)

pub here_entries : (rs : List Record) (from n : ℕ) → AreEntries rs
    → AreEntries (take n (drop from rs))
here_entries rs from n entries x c =
    entries x (contains_drop from rs x (contains_take n (drop from rs) x c))

pub back_entries : (rs : List Record) (from : ℕ) → AreEntries rs → AreEntries (drop from rs)
back_entries rs from entries x c = entries x (contains_drop from rs x c)
