-- The log of an image that spells records.
use Rattle.std.proofs.Common.{◌≡◌, ⊎_elim, ℕ, zero, suc, ◌+◌, ◌-◌, ◌<◌, ◌≤◌, ◌==◌, ◌^◌, Bool, true}
use Rattle.std.proofs.Common.{false, not, List, [], ◌∷◌, ◌++◌, length, take, drop, replicate, refl}
use Rattle.std.proofs.Common.{sym, ◌∙◌, subst, ap, arith, if◌then◌else◌, take_while}
use Rattle.std.specs.Prelude.{option_to_list}
use Rattle.std.specs.List.{Contains, flat_map, list_all, prefix_len}
use Rattle.std.proofs.lemmas.List.{take_at, drop_at, append_assoc, take_all, take-append-drop}
use Rattle.std.proofs.lemmas.List.{length-take-le, drop-drop, length-append}
use Rattle.std.proofs.lemmas.Bool.Decides.{leb_tells}
use Rattle.byteorder.specs.Endian.{big_number}
use Rattle.rg_base.specs.declared.set.Set.TheVariants.{Log}
use Rattle.rg_base.specs.Field.{field}
use Rattle.rg_base.proofs.Fields.{length-field}
use Rattle.rg_outside.specs.Calls.{Image}
use Rattle.rg_record.specs.declared.record.Record.{Record}
use Rattle.rg_record.specs.Fits.{Fits}
use Rattle.rg_record.specs.Reading.{record_at}
use Rattle.rg_record.specs.Spelling.{record_bytes, record_size}
use Rattle.rg_record.proofs.Again.{record_again}
use Rattle.rg_record.proofs.Rows.{number_front}
use Rattle.rg_record.proofs.Sizes.{length-record_bytes}
use Rattle.rg_image.specs.Form.{IsOpened}
use Rattle.rg_image.specs.Kept.{AllFit}
use Rattle.rg_image.specs.Log.{read_records, records_of, is_used, log_pages, log_of, Spells}
use Rattle.rg_image.specs.Log.{SpellsFrom}
use Rattle.rg_image.specs.Pack.{Spot, on_page, start, end_of, next_spot, size_of, room, fitting}
use Rattle.rg_image.specs.Pack.{log_bytes}
use Rattle.rg_image.specs.Page.{page_bytes, page_head, spelt}
use Rattle.rg_image.proofs.Pack.{none_above, on_page_append, end_of_append, fits_here, fits_only}
use Rattle.rg_image.proofs.Pack.{fitting_le, first_spot, next_begins, end_page}
use Rattle.rg_image.proofs.Room.{fitting_room}
use Rattle.rg_image.proofs.Start.{some_fits, last_page}
use Rattle.rg_image.proofs.Step.{contains_drop}

-- the numbers and texts of each record are within their types
abbrev pub AreValues : List Record → Type 0
AreValues rs = (r : Record) → Contains rs r → Fits r

-- a record more is read
one_read : (k n : ℕ) (front rest bytes : List ℕ) → bytes ≡ field 2 n ++ (front ++ rest)
    → length front ≡ n → n < 2 ^ 16
    → read_records (suc k) bytes ≡ option_to_list (record_at front) ++ read_records k rest
one_read k n front rest bytes is len small =
    let number : big_number 2 bytes ≡ n = number_front 2 n (front ++ rest) bytes small is in
    let d2 : drop 2 bytes ≡ front ++ rest =
    ap (drop 2) is ∙ drop_at (field 2 n) (front ++ rest) 2 (length-field 2 n) in
    let t : take n (drop 2 bytes) ≡ front = ap (take n) d2 ∙ take_at front rest n len in
    let d : drop (2 + n) bytes ≡ rest =
    sym (drop-drop n 2 bytes) ∙ ap (drop n) d2 ∙ drop_at front rest n len in
    ap
    (λ (m : ℕ). option_to_list (record_at (take m (drop 2 bytes)))
    ++ read_records k (drop (2 + m) bytes)) number
    ∙ ap (λ (x : List ℕ). option_to_list (record_at x) ++ read_records k (drop (2 + n) bytes)) t
    ∙ ap (λ (x : List ℕ). option_to_list (record_at front) ++ read_records k x) d

read_back : (rs : List Record) (rest : List ℕ) → AllFit rs → AreValues rs
    → read_records (length rs) (flat_map spelt rs ++ rest) ≡ rs
read_back [] rest fit values = refl
read_back (r ∷ rs) rest fit values =
    let parts : (spelt r ++ flat_map spelt rs) ++ rest
    ≡ field 2 (record_size r) ++ (record_bytes r ++ (flat_map spelt rs ++ rest)) =
    append_assoc (spelt r) (flat_map spelt rs) rest
    ∙ append_assoc (field 2 (record_size r)) (record_bytes r) (flat_map spelt rs ++ rest) in
    let small : size_of r ≤ room = fit r (0, omega arith, refl) in
    one_read (length rs) (record_size r) (record_bytes r) (flat_map spelt rs ++ rest) _ parts
    (length-record_bytes r) (omega (arith, small))
    ∙ ap (λ o. option_to_list o ++ read_records (length rs) (flat_map spelt rs ++ rest))
    (record_again r (values r (0, omega arith, refl)))
    ∙ ap (λ (l : List Record). r ∷ l)
    (read_back rs rest (λ x c. fit x (suc c.0, omega (arith, c.1), c.2))
    (λ x c. values x (suc c.0, omega (arith, c.1), c.2)))

count_small : (f : ℕ) (rs : List Record) → length rs ≡ f → 0 + f ≤ room → length rs < 2 ^ 16
count_small f rs len le = omega (arith, len, le)

-- where the parts of a page begin
pub page_parts : (p first count used : ℕ) (body zeros : List ℕ) → count < 2 ^ 16
    → (big_number 2 (drop 16 ((page_head p first count used ++ body) ++ zeros)) ≡ count)
    × (drop 24 ((page_head p first count used ++ body) ++ zeros) ≡ body ++ zeros)
page_parts p first count used body zeros small =
    let a : List ℕ = 82 ∷ 71 ∷ 76 ∷ 49 ∷ (field 4 p ++ field 8 first) in
    let b : List ℕ = field 2 count in
    let c : List ℕ = field 2 used ++ field 4 0 in
    let la : length a ≡ 16 = simp (length-append, length-field) refl in
    let lc : length (b ++ c) ≡ 8 = simp (length-append, length-field) refl in
    let head : page_head p first count used ≡ a ++ (b ++ c) =
    ap (λ (x : List ℕ). 82 ∷ 71 ∷ 76 ∷ 49 ∷ x)
    (sym (append_assoc (field 4 p) (field 8 first) (b ++ c))) in
    let whole : (page_head p first count used ++ body) ++ zeros
    ≡ a ++ ((b ++ c) ++ (body ++ zeros)) =
    append_assoc (page_head p first count used) body zeros
    ∙ ap (λ (x : List ℕ). x ++ (body ++ zeros)) head ∙ append_assoc a (b ++ c) (body ++ zeros) in
    let d16 : drop 16 ((page_head p first count used ++ body) ++ zeros)
    ≡ (b ++ c) ++ (body ++ zeros) =
    ap (drop 16) whole ∙ drop_at a ((b ++ c) ++ (body ++ zeros)) 16 la in (
      number_front 2 count (c ++ (body ++ zeros)) _ small (d16 ∙ append_assoc b c (body ++ zeros)),
      sym (drop-drop 8 16 ((page_head p first count used ++ body) ++ zeros)) ∙ ap (drop 8) d16
          ∙ drop_at (b ++ c) (body ++ zeros) 8 lc,
    )

counted : (bytes rest : List ℕ) (rs : List Record)
    → (big_number 2 (drop 16 bytes) ≡ length rs) × (drop 24 bytes ≡ flat_map spelt rs ++ rest)
    → AllFit rs → AreValues rs → records_of bytes ≡ rs
unfolding records_of
counted bytes rest rs parts fit values =
    ap (λ (n : ℕ). read_records n (drop 24 bytes)) parts.0 ∙ ap (read_records (length rs)) parts.1
    ∙ read_back rs rest fit values

-- the records of a page's bytes
pub page_records : (p : ℕ) (rs : List Record) → 1 ≤ length rs → length rs < 2 ^ 16 → AllFit rs
    → AreValues rs → records_of (page_bytes p rs) ≡ rs
unfolding page_bytes
page_records p [] there small fit values = absurd (omega (arith, there))
page_records p (r ∷ rs) there small fit values =
    let body : List ℕ = flat_map spelt (r ∷ rs) in
    let head : List ℕ = page_head p r.position.0 (length (r ∷ rs)) (log_bytes (r ∷ rs)) in
    let zeros : List ℕ = replicate (4096 - length (head ++ body)) 0 in
    counted ((head ++ body) ++ zeros) zeros (r ∷ rs)
    (page_parts p r.position.0 (length (r ∷ rs)) (log_bytes (r ∷ rs)) body zeros small) fit values

pub page_used : (p : ℕ) (rs : List Record) → 1 ≤ length rs → is_used (page_bytes p rs) ≡ true
unfolding is_used page_bytes
page_used p [] there = absurd (omega (arith, there))
page_used p (r ∷ rs) there = refl

pub contains_take : (n : ℕ) (rs : List Record) (r : Record) → Contains (take n rs) r → Contains rs r
contains_take zero rs r c = absurd (omega (arith, c.1))
contains_take (suc n) [] r c = c
contains_take (suc n) (x ∷ rs) r (zero, lt, is) = (zero, omega arith, is)
contains_take (suc n) (x ∷ rs) r (suc k, lt, is) =
    let t = contains_take n rs r (k, omega (arith, lt), is) in (suc t.0, omega (arith, t.1), t.2)

zeros_all : (n : ℕ) → list_all (λ b. b == 0) (replicate n 0) ≡ true
zeros_all zero = refl
zeros_all (suc n) = zeros_all n

pub zero_unused : (p : ℕ) → is_used (page_bytes p []) ≡ false
unfolding is_used page_bytes
zero_unused p = ap not (zeros_all 4096)

-- the next record, if there is one, stands first on that page
Starts : Spot → ℕ → List Record → Type 0
Starts at page [] = Unit {0}
Starts at page (r ∷ rs) = next_spot at r ≡ record { page = page; used = size_of r }

from_start : (p page y : ℕ) (at : Spot) (back : List Record) → Starts at page back
    → ((r : Record) → Contains back r → size_of r ≤ room)
    → on_page p at (take y back) ≡ on_page p (record { page = page; used = 0 }) (take y back)
unfolding Starts
from_start p page zero at back starts fit = refl
from_start p page (suc y) at [] starts fit = refl
from_start p page (suc y) at (r ∷ back) starts fit =
    let same : next_spot at r ≡ next_spot (record { page = page; used = 0 }) r =
    starts ∙ sym (first_spot page r (fit r (0, omega arith, refl))) in
    ap
    (λ (s : Spot). if s.page == p then r ∷ on_page p s (take y back) else on_page p s (take y back))
    same

end_from : (page y : ℕ) (at : Spot) (back : List Record) → Starts at page back
    → ((r : Record) → Contains back r → size_of r ≤ room) → 1 ≤ y → 1 ≤ length back
    → end_of at (take y back) ≡ end_of (record { page = page; used = 0 }) (take y back)
unfolding Starts
end_from page zero at back starts fit some there = absurd (omega (arith, some))
end_from page (suc y) at [] starts fit some there = absurd (omega (arith, there))
end_from page (suc y) at (r ∷ back) starts fit some there =
    let same : next_spot at r ≡ next_spot (record { page = page; used = 0 }) r =
    starts ∙ sym (first_spot page r (fit r (0, omega arith, refl))) in
    ap (λ (s : Spot). end_of s (take y back)) same

starts_at : (page : ℕ) (at : Spot) (back l : List Record) → l ≡ drop (fitting 0 back) back
    → at ≡ end_of (record { page = page; used = 0 }) (take (fitting 0 back) back)
    → Starts at (suc page) l
unfolding Starts
starts_at page at back [] is end = tt
starts_at page at back (r ∷ l) is end =
    let one : page + 1 ≡ suc page = omega arith in
    ap (λ (s : Spot). next_spot s r) end ∙ next_begins page 0 back l r (sym is)
    ∙ ap (λ (k : ℕ). let s : Spot = record { page = k; used = size_of r } in s) one

first_page : (page : ℕ) (at : Spot) (back : List Record) → Starts at page back → 1 ≤ length back
    → page ≤ (end_of at back).page
unfolding Starts
first_page page at [] starts there = absurd (omega (arith, there))
first_page page at (r ∷ back) starts there =
    omega (arith, ap (λ (s : Spot). s.page) starts, end_page (next_spot at r) back)

while_used : (x : List ℕ) (xs : List (List ℕ)) → is_used x ≡ true
    → take_while is_used (x ∷ xs) ≡ x ∷ take_while is_used xs
while_used x xs e =
    let one : 1 + prefix_len is_used xs ≡ suc (prefix_len is_used xs) = omega arith in
    ap (λ (t : Bool). take (if t then 1 + prefix_len is_used xs else 0) (x ∷ xs)) e
    ∙ ap (λ (k : ℕ). take k (x ∷ xs)) one

while_zero : (x : List ℕ) (xs : List (List ℕ)) → is_used x ≡ false
    → take_while is_used (x ∷ xs) ≡ []
while_zero x xs e = ap (λ (t : Bool). take (if t then 1 + prefix_len is_used xs else 0) (x ∷ xs)) e

pages_is : (i : Image) (top n p : ℕ) (at : Spot) (back : List Record) → Starts at p back
    → ((r : Record) → Contains back r → size_of r ≤ room)
    → ((r : Record) → Contains back r → Fits r)
    → ((q : ℕ) → p ≤ q → q < p + n → q ≤ top → i Log q ≡ page_bytes q (on_page q at back))
    → (1 ≤ length back → (end_of at back).page < p + n) → p ≤ top
    → (1 ≤ length back → (end_of at back).page < top)
    → flat_map records_of (take_while is_used (log_pages i p n)) ≡ back
pages_is i top zero p at [] starts fit values reads last le high = refl
pages_is i top zero p at (r ∷ back) starts fit values reads last le high =
    absurd (omega (arith, first_page p at (r ∷ back) starts (omega arith), last (omega arith)))
pages_is i top (suc n) p at [] starts fit values reads last le high =
    ap (flat_map records_of)
    (while_zero (i Log p) (log_pages i (suc p) n)
    (ap is_used (reads p (omega arith) (omega arith) le) ∙ zero_unused p))
pages_is i top (suc n) p at (r ∷ rest) starts fit values reads last le high =
    let back : List Record = r ∷ rest in
    let f = fitting 0 back in
    let some : 1 ≤ f = some_fits back fit (omega arith) in
    let fl : f ≤ length back = fitting_le 0 back in
    let len : length (take f back) ≡ f = length-take-le f back fl in
    let here : on_page p at back ≡ take f back =
    ap (on_page p at) (sym (take_all (length back) back (omega arith)))
    ∙ from_start p p (length back) at back starts fit ∙ fits_here p 0 (length back) back fl in
    let page : i Log p ≡ page_bytes p (take f back) =
    reads p (omega arith) (omega arith) le ∙ ap (page_bytes p) here in
    let used : is_used (i Log p) ≡ true =
    ap is_used page ∙ page_used p (take f back) (omega (arith, len, some)) in
    let got : records_of (i Log p) ≡ take f back = ap records_of page
    ∙ page_records p (take f back) (omega (arith, len, some))
    (count_small f (take f back) len (fitting_room 0 back (omega arith)))
    (λ x c. fit x (contains_take f back x c)) (λ x c. values x (contains_take f back x c)) in
    let end : end_of at (take f back) ≡ end_of (record { page = p; used = 0 }) (take f back) =
    end_from p f at back starts fit some (omega arith) in
    let whole : take f back ++ drop f back ≡ back = take-append-drop f back in
    let same : (end_of (end_of at (take f back)) (drop f back)).page ≡ (end_of at back).page =
    ap (λ (s : Spot). s.page)
    (sym (end_of_append at (take f back) (drop f back)) ∙ ap (end_of at) whole) in
    let next = pages_is i top n (suc p) (end_of at (take f back)) (drop f back)
    (starts_at p (end_of at (take f back)) back (drop f back) refl end)
    (λ x c. fit x (contains_drop f back x c)) (λ x c. values x (contains_drop f back x c))
    (λ q low lt up.
    let on : on_page q at back ≡ on_page q (end_of at (take f back)) (drop f back) =
    ap (on_page q at) (sym whole) ∙ on_page_append q at (take f back) (drop f back)
    ∙ ap (λ (l : List Record). l ++ on_page q (end_of at (take f back)) (drop f back))
    (from_start q p f at back starts fit
    ∙ fits_only q p 0 f back (λ e. absurd (omega (arith, e, low))) (omega arith)) in
    reads q (omega (arith, low)) (omega (arith, lt)) up ∙ ap (page_bytes q) on)
    (λ there. omega (arith, same, last (omega arith)))
    (omega (arith, first_page p at back starts (omega arith), high (omega arith)))
    (λ there. omega (arith, same, high (omega arith))) in
    ap (flat_map records_of) (while_used (i Log p) (log_pages i (suc p) n) used)
    ∙ ap
    (λ (l : List Record). l ++ flat_map records_of (take_while is_used (log_pages i (suc p) n))) got
    ∙ ap (λ (l : List Record). take f back ++ l) next ∙ whole

start_starts : (rs : List Record) → AllFit rs → Starts start 1 rs
unfolding Starts
start_starts [] fit = tt
start_starts (r ∷ rs) fit = first_spot 1 r (fit r (0, omega arith, refl))

-- an image that spells the records has them as its log
pub log_is : (capacity : ℕ) (rs : List Record) (i : Image) → AllFit rs → AreValues rs
    → (1 ≤ length rs → (end_of start rs).page ≤ capacity) → Spells capacity rs i
    → log_of capacity i ≡ rs
log_is capacity rs i fit values high spells =
    pages_is i (suc (end_of start rs).page) capacity 1 start rs (start_starts rs fit) fit values
    (λ q low lt up. spells q low (omega (arith, lt))) (λ there. omega (arith, high there))
    (omega arith) (λ there. omega arith)

-- the pages up to the first zero one are enough
pub opened_log : (capacity : ℕ) (rs : List Record) (from page : ℕ) (i : Image)
    → IsOpened rs from page → AreValues rs → page ≤ capacity → Spells page rs i
    → (page < capacity → i Log (page + 1) ≡ page_bytes (page + 1) []) → log_of capacity i ≡ rs
opened_log capacity rs from page i is values le spells stop =
    pages_is i (page + 1) capacity 1 start rs (start_starts rs is.fit) is.fit values
    (λ q low lt up. ⊎_elim
    (λ more. spells q low (omega (arith, more.1)))
    (λ past. let at : q ≡ page + 1 = omega (arith, past.1, up) in
    subst (λ k. i Log k ≡ page_bytes k (on_page k start rs)) (sym at)
    (stop (omega (arith, at, lt)) ∙ ap (page_bytes (page + 1)) (sym (above rs page is))))
    (leb_tells q page))
    (λ there. omega (arith, last there)) (omega arith) (λ there. omega (arith, last there))
  where
    filled_ : (l : List Record) → l ≡ rs → 1 ≤ length l → 1 ≤ page
    filled_ l e there = ⊎_elim (λ le. le.1)
        (λ lt. let none : rs ≡ [] = is.none (omega (arith, lt.1)) in
        absurd (omega (arith, ap (λ (x : List Record). length x) (e ∙ none), there)))
        (leb_tells 1 page)

    last : 1 ≤ length rs → (end_of start rs).page ≡ page
    last there = let low = filled_ rs refl there in
        last_page rs from page (is.begins low) is.fit (is.there low) (is.whole low)

    above : (l : List Record) (p : ℕ) → IsOpened l from p → on_page (p + 1) start l ≡ []
    above [] p o = refl
    above (r ∷ l) p o =
        let low : 1 ≤ p =
        ⊎_elim (λ le. le.1) (λ lt. absurd (cc (o.none (omega (arith, lt.1))))) (leb_tells 1 p) in
        none_above (p + 1) start (r ∷ l)
        (omega (arith, last_page (r ∷ l) from p (o.begins low) o.fit (o.there low) (o.whole low)))

-- an image that spells all of the records, or some
pub some_log : (capacity low : ℕ) (rs : List Record) (i : Image) → AllFit rs → AreValues rs
    → (1 ≤ length rs → (end_of start rs).page ≤ capacity) → SpellsFrom capacity rs low i
    → (n : ℕ) × (low ≤ n) × (n ≤ length rs) × (log_of capacity i ≡ take n rs)
some_log capacity low rs i fit values high is =
    let n = is.count in
    let whole : take n rs ++ drop n rs ≡ rs = take-append-drop n rs in
    let before : (end_of start (take n rs)).page ≤ (end_of start rs).page =
    omega (
      arith,
      end_page (end_of start (take n rs)) (drop n rs),
      ap (λ (s : Spot). s.page)
          (sym (end_of_append start (take n rs) (drop n rs)) ∙ ap (end_of start) whole),
    ) in (
      n,
      is.least,
      is.most,
      log_is capacity (take n rs) i (λ r c. fit r (contains_take n rs r c))
          (λ r c. values r (contains_take n rs r c))
          (λ some. omega (
            arith,
            before,
            high
                (omega (
                  arith,
                  some,
                  length-append (take n rs) (drop n rs),
                  ap (λ (l : List Record). length l) whole,
                )),
          )) is.spells,
    )

pub whole_log : (capacity low : ℕ) (rs : List Record) (i : Image) → AllFit rs → AreValues rs
    → (1 ≤ length rs → (end_of start rs).page ≤ capacity) → low ≡ length rs
    → SpellsFrom capacity rs low i → log_of capacity i ≡ rs
whole_log capacity low rs i fit values high all is =
    let s = some_log capacity low rs i fit values high is in
    s.3 ∙ take_all s.0 rs (omega (arith, s.1, all))
