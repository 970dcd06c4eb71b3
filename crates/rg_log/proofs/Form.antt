-- The form of a log page.
use Rattle.std.proofs.Common.{◌≡◌, ℕ, ◌-◌, ◌<◌, ◌^◌, Bool, true, false, not, List, [], ◌∷◌, ◌++◌}
use Rattle.std.proofs.Common.{length, take, drop, replicate, sym, ◌∙◌, subst, ap, arith}
use Rattle.std.specs.List.{flat_map}
use Rattle.std.proofs.lemmas.List.{take-append-drop}
use Rattle.byteorder.specs.Endian.{big_number}
use Rattle.rg_base.specs.Field.{field}
use Rattle.rg_record.specs.declared.record.Record.{Record}
use Rattle.rg_record.proofs.Rows.{number_front}
use Rattle.rg_image.specs.Pack.{log_bytes}
use Rattle.rg_image.specs.Page.{page_bytes, page_head, spelt}
use Rattle.rg_image.proofs.Decode.{page_parts}
use Rattle.rg_image.proofs.Room.{fitting_room}
use Rattle.rg_log.specs.Read.{IsForm, StandAt, AreRead}

stands : (page : ℕ) (bytes : List ℕ) (rs : List Record) → IsForm page bytes rs
    → (zeros : List ℕ) × (big_number 2 (drop 16 bytes) ≡ length rs)
    × (drop 24 bytes ≡ flat_map spelt rs ++ zeros)
unfolding page_bytes
stands page bytes [] form = absurd (omega (arith, form.some))
stands page bytes (r ∷ rs) form =
    let small : length (r ∷ rs) < 2 ^ 16 =
    omega (arith, fitting_room 0 (r ∷ rs) (omega arith), form.fits) in
    let body : List ℕ = flat_map spelt (r ∷ rs) in
    let head : List ℕ = page_head page r.position.0 (length (r ∷ rs)) (log_bytes (r ∷ rs)) in
    let zeros : List ℕ = replicate (4096 - length (head ++ body)) 0 in
    let p =
    page_parts page r.position.0 (length (r ∷ rs)) (log_bytes (r ∷ rs)) body zeros small in (
      zeros,
      ap (λ (l : List ℕ). big_number 2 (drop 16 l)) form.spelt_so ∙ p.0,
      ap (drop 24) form.spelt_so ∙ p.1,
    )

-- so many records stand behind the header of a page
pub form_stands : (page count : ℕ) (bytes body : List ℕ) (rs : List Record) → count < 2 ^ 16
    → field 2 count ≡ take 2 (drop 16 bytes) → body ≡ drop 24 bytes
    → IsForm page bytes rs → (zeros : List ℕ) × StandAt body count rs zeros
form_stands page count bytes body rs small number is_body form =
    let s = stands page bytes rs form in
    let read : big_number 2 (drop 16 bytes) ≡ count =
    number_front 2 count (drop 2 (drop 16 bytes)) (drop 16 bytes) small
    (sym (take-append-drop 2 (drop 16 bytes))
    ∙ ap (λ (l : List ℕ). l ++ drop 2 (drop 16 bytes)) (sym number)) in
    (s.0, record { entries = form.entries; number = sym s.1 ∙ read; bytes_are = is_body ∙ s.2 })

-- what was read is what stands there
pub form_read : (page count : ℕ) (bytes body : List ℕ) (found rs : List Record) → count < 2 ^ 16
    → field 2 count ≡ take 2 (drop 16 bytes) → body ≡ drop 24 bytes
    → AreRead body count found → IsForm page bytes rs → IsForm page bytes found
form_read page count bytes body found rs small number is_body read form =
    let s = form_stands page count bytes body rs small number is_body form in
    subst (IsForm page bytes) (sym (read.1 rs s.0 s.1)) form

pub not_both : (b : Bool) → b ≡ true → not b ≡ true → ⊥
not_both true e n = absurd cc
not_both false e n = absurd cc
