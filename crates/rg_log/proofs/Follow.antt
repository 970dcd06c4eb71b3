-- Whether a page follows the one before it.
use Rattle.std.proofs.Common.{◌≡◌, ℕ, ◌+◌, ◌-◌, ◌≤◌, ◌<◌, List, [], ◌∷◌, length, take, drop, get_or}
use Rattle.std.proofs.Common.{sym, ◌∙◌, subst, ap, arith}
use Rattle.std.proofs.lemmas.List.{drop_more, drop_all, take_all, length-drop}
use Rattle.rg_record.specs.declared.record.Record.{Record}
use Rattle.rg_image.specs.Form.{IsOpened}
use Rattle.rg_image.specs.Pack.{Spot, start, end_of, size_of, room, fitting, log_bytes}
use Rattle.rg_image.specs.Rules.{Follows, IsNextPage, position_after}
use Rattle.rg_image.proofs.Pack.{after_fit}
use Rattle.rg_image.proofs.Room.{first_step, fitting_room}
use Rattle.rg_image.proofs.Rules.{last_spot}
use Rattle.std.proofs.Common.{Option, Some, ◌^◌}
use Rattle.std.specs.declared.vec.Vec.{Vec}
use Rattle.std.specs.declared.alloc.Global.{Global}
use Rattle.rg_image.specs.Log.{records_of}
use Rattle.rg_image.proofs.Decode.{page_records}
use Rattle.rg_image.proofs.Entries.{all_fit, are_values}
use Rattle.rg_log.specs.Read.{IsForm, IsFormRead}

pub position_more : (rs : List Record) (i n : ℕ) (x : Record) → i < length rs → x ≡ get_or rs i x
    → position_after n (drop i rs) ≡ position_after (x.position.0 + 1) (drop (i + 1) rs)
position_more rs i n x lt is =
    ap (position_after n) (drop_more rs i x lt)
    ∙ ap (λ (y : Record). position_after (y.position.0 + 1) (drop (i + 1) rs)) (sym is)

pub position_end : (rs : List Record) (i n : ℕ) → length rs ≤ i → position_after n (drop i rs) ≡ n
position_end rs i n le = ap (position_after n) (drop_all i rs le)

-- where all records fit, the spot after them is behind their bytes
end_used : (page used : ℕ) (back : List Record) → fitting used back ≡ length back
    → (end_of (record { page = page; used = used }) back).used ≡ used + log_bytes back
end_used page used [] all = omega arith
end_used page used (x ∷ back) all =
    let step = first_step used x back (omega (arith, all)) in
    ap (λ (s : Spot). (end_of s back).used) (after_fit page used x step.0)
    ∙ end_used page (used + size_of x) back (omega (arith, all, step.1)) ∙ omega arith

pub used_on_last : (rs : List Record) (from page : ℕ) → IsOpened rs from page → 1 ≤ page
    → (end_of start rs).used ≡ log_bytes (take (fitting 0 (drop from rs)) (drop from rs))
used_on_last rs from page is low =
    let len : length (drop from rs) ≡ length rs - from = length-drop from rs in
    let all : fitting 0 (drop from rs) ≡ length (drop from rs) =
    omega (arith, is.whole low, len, is.there low) in
    ap (λ (s : Spot). s.used) (last_spot rs from page is low) ∙ end_used page 0 (drop from rs) all
    ∙ omega
    (arith, ap log_bytes (take_all (fitting 0 (drop from rs)) (drop from rs) (omega (arith, all))))

pub within : (rs : List Record) (from page : ℕ) → IsOpened rs from page → 1 ≤ page
    → from ≤ length rs
within rs from page is low = omega (arith, is.there low)

-- the two facts about the first of the next records
pub made : (page : ℕ) (rs more : List Record) (x : Record) → 1 ≤ length more → x ≡ get_or more 0 x
    → x.position.0 ≡ position_after 1 rs
    → (2 ≤ page → room < (end_of start rs).used + size_of x) → Follows page rs more
made page rs [] x some is position full = absurd (omega (arith, some))
made page rs (r ∷ more) x some is position full = (
  sym (ap (λ (y : Record). y.position.0) is) ∙ position,
  λ two. omega (arith, full two, ap size_of is),
)

pub position_of : (page : ℕ) (rs more : List Record) (x : Record) → x ≡ get_or more 0 x
    → Follows page rs more → x.position.0 ≡ position_after 1 rs
position_of page rs [] x is follows = absurd follows
position_of page rs (r ∷ more) x is follows = ap (λ (y : Record). y.position.0) is ∙ follows.0

pub full_of : (page : ℕ) (rs more : List Record) (x : Record) → x ≡ get_or more 0 x
    → Follows page rs more → 2 ≤ page → room < (end_of start rs).used + size_of x
full_of page rs [] x is follows two = absurd follows
full_of page rs (r ∷ more) x is follows two = omega (arith, follows.1 two, ap size_of is)

pub some_of : (page : ℕ) (rs more : List Record) → Follows page rs more → 1 ≤ length more
some_of page rs [] follows = absurd follows
some_of page rs (r ∷ more) follows = omega arith

-- a page that follows has the form
pub form_of : (page : ℕ) (rs more : List Record) (bytes : List ℕ) → IsNextPage page rs more bytes
    → IsForm page bytes more
form_of page rs more bytes next = record {
  some = some_of page rs more next.follows;
  entries = next.entries;
  fits = next.fits;
  spelt_so = next.spelt;
}

-- a page has the form with one list of records
pub form_one : (page : ℕ) (bytes : List ℕ) (a b : List Record) → IsForm page bytes a
    → IsForm page bytes b → a ≡ b
form_one page bytes a b is_a is_b =
    let small : (rs : List Record) → fitting 0 rs ≡ length rs → length rs < 2 ^ 16 =
    λ rs fits. omega (arith, fitting_room 0 rs (omega arith), fits) in
    sym
    (page_records page a is_a.some (small a is_a.fits) (all_fit a is_a.entries)
    (are_values a is_a.entries))
    ∙ ap records_of (sym is_a.spelt_so ∙ is_b.spelt_so)
    ∙ page_records page b is_b.some (small b is_b.fits) (all_fit b is_b.entries)
    (are_values b is_b.entries)

pub form_some : (page : ℕ) (bytes : List ℕ) (o : Option (Vec Record Global)) (v : Vec Record Global)
    → o ≡ Some v → IsFormRead page bytes o → IsForm page bytes v.items
form_some page bytes o v e is =
    let it : IsFormRead page bytes (Some v) = subst (IsFormRead page bytes) e is in it

pub none_follows : (page : ℕ) (rs found : List Record) (bytes : List ℕ) → IsForm page bytes found
    → (Follows page rs found → ⊥)
    → (more : List Record) → IsNextPage page rs more bytes → ⊥
none_follows page rs found bytes form other more next =
    other
    (subst (Follows page rs) (form_one page bytes more found (form_of page rs more bytes next) form)
    next.follows)
