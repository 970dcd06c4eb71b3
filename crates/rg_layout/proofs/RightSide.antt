-- The layout of pages and indexes is right for the table of the rows.
use Rattle.std.proofs.Common.{◌≡◌, ◌==◌, ◌||◌, ℕ, ◌+◌, Bool, true, false, cond, List, [], ◌∷◌, ◌++◌}
use Rattle.std.proofs.Common.{Option, Some, None, refl, sym, ap, subst, ◌∙◌, arith, length, filter}
use Rattle.std.proofs.Common.{inl, inr}
use Rattle.std.specs.Prelude.{nat_le}
use Rattle.std.specs.List.{list_any, list_all, AllByRecursion}
use Rattle.std.specs.FinMap as fin
use Rattle.std.specs.FinMap.{find, get-entries}
use Rattle.std.specs.Ordering.{nat_cmp, eq_by_cmp}
use Rattle.std.proofs.lemmas.Bool.{cases_Bool, and_from, eqb-true, eq-eqb, false≢true, le-leb}
use Rattle.std.proofs.lemmas.Bool.Decides.{nat_tests}
use Rattle.std.specs.Cmp.{unsigned_tied}
use Rattle.rg_base.specs.declared.place.Place.{Place}
use Rattle.rg_base.specs.declared.row.Row.{Row as TableRow}
use Rattle.rg_base.specs.declared.which.Which.{Which}
use Rattle.rg_base.specs.declared.which.Which.TheVariants.{Key, Clus, Cat}
use Rattle.rg_home.specs.Pages.{slot_of}
use Rattle.rg_home.specs.Plan.{pointed_to}
use Rattle.rg_home.specs.Rows.{row_at, home_row, Tied}
use Rattle.rg_home.specs.Slot.{Slot}
use Rattle.rg_home.specs.Slot.{Free}
use Rattle.rg_index.specs.Entries.{IsRising}
use Rattle.rg_index.specs.Listed.{IsListingOf, spot_row}
use Rattle.rg_index.specs.RisingPart.{IsRising-rising_part}
use Rattle.rg_index.proofs.Listing.{listing_is}
use Rattle.rg_index.proofs.Order.{same_itself}
use Rattle.rg_btree.specs.Indexes.Listings.{entries_of}
use Rattle.rg_btree.specs.declared.indexes.indexes.Indexes.{Indexes}
use Rattle.rg_layout.proofs.OnSpots.{is_over, spots, row_spot, every_spot, each_over}
use Rattle.rg_layout.proofs.OnSpots.{ForOver, IsOverAt, over_at, for_over, all_differ, homes_differ}
use Rattle.rg_layout.proofs.OnSpots.{different_from, homes_rise, rising_from, all_from}
use Rattle.rg_layout.proofs.OnSpots.{Each-joined}
use Rattle.rg_layout.proofs.Places.{Rise, IsWithin, all_rise, is_among, is_slot}
use Rattle.rg_layout.specs.Right.{IsRightFor}
use Rattle.rg_layout.specs.Spots.{places_to, spot_of, spots_of}
use Rattle.rg_home.specs.Table.{IsTable}
use Rattle.rg_model.specs.Layout as layout
use Rattle.rg_base.specs.Place.{same_place}
use Rattle.rg_base.proofs.Each.{Each-map, Each-append}
use Rattle.rg_base.proofs.SamePlace.{same_place-true, same_place-refl}
use Rattle.rg_model.specs.Layout.{is_place_before, homes, overs, is_on_page, has_clus}
use Rattle.rg_model.specs.Layout.{are_spots_of, listing, is_listing, same_entry, is_right_side}
use Rattle.rg_model.specs.Same.{same_list}
use Rattle.rg_model.specs.State as state
use Rattle.rg_model.specs.State.{Table, row_of}
use Rattle.rg_stmt.specs.declared.layout.Side.{Side}
use Rattle.rg_stmt.specs.declared.layout.Spot.{Spot}

-- ---- the pages

taken : (pages : List (List Slot)) (p : Place) (row : TableRow)
    → row_at (slot_of pages) p ≡ Some row → slot_of pages p ≡ Free → ⊥
taken pages p row e free = absurd (cc (sym e ∙ ap (home_row (slot_of pages)) free))

on_page : (n : ℕ) (p : Place) → IsWithin n p → is_on_page n p ≡ true
on_page n p w =
    and_from (nat_le 1 p.page) (nat_le p.page n) (le-leb 1 p.page w.0) (le-leb p.page n w.1)

within_pages : (pages : List (List Slot)) → Tied (slot_of pages)
    → AllByRecursion (λ p. is_on_page (length pages) p ≡ true)
    (homes (spots_of pages) ++ overs (spots_of pages))
within_pages pages tied =
    let at = slot_of pages in
    let n = length pages in
    let ps = places_to pages n in
    let on : Place → Type 0 = λ p. is_on_page n p ≡ true in
    Each-append on (homes (spots at ps)) (overs (spots at ps))
    (Each-joined on (λ (s : Spot). s.place) (spots at ps)
    (every_spot at (λ s. on s.place)
    (λ p row e. let is = is_slot pages p (taken pages p row e) in on_page n p (is.low, is.high))
    ps))
    (each_over on (spots at ps)
    (every_spot at (λ s. ForOver on s.over)
    (λ p row e. for_over at tied p on
    (λ o over. let is = is_slot pages o (over_taken o over) in on_page n o (is.low, is.high))
    (pointed_to (at p)) (over_at at tied p row e)) ps))
  where
    over_taken : {p : Place} (o : Place) → IsOverAt (slot_of pages) p o → slot_of pages o ≡ Free → ⊥
    over_taken o over free = false≢true (sym (kind free) ∙ over.kind)
      where
        kind : slot_of pages o ≡ Free → is_over (slot_of pages o) ≡ false
        kind free = ap is_over free

-- ---- the spots are the table's

-- an entry is found by its key
entry_found : (es : List (ℕ × TableRow))
    → AllByRecursion (λ e. (row : TableRow) × (find nat_cmp e.0 es ≡ Some row)) es
entry_found [] = tt
entry_found (e ∷ es) = (
  here,
  Each-map (λ x. (row : TableRow) × (find nat_cmp x.0 es ≡ Some row))
      (λ x. (row : TableRow) × (find nat_cmp x.0 (e ∷ es) ≡ Some row)) later es (entry_found es),
)
  where
    here : (row : TableRow) × (find nat_cmp e.0 (e ∷ es) ≡ Some row)
    here = (
      e.1,
      ap (λ (b : Bool). cond b (Some e.1) (find nat_cmp e.0 es))
          (unsigned_tied e.0 e.0 ∙ eq-eqb e.0 e.0 refl),
    )

    later : (x : ℕ × TableRow) → (row : TableRow) × (find nat_cmp x.0 es ≡ Some row)
        → (row : TableRow) × (find nat_cmp x.0 (e ∷ es) ≡ Some row)
    later x (row, is) = elim (eq_by_cmp nat_cmp x.0 e.0) as
        (λ b. (row : TableRow) × (cond b (Some e.1) (find nat_cmp x.0 es) ≡ Some row)) [
          | true ↦ (e.1, refl)
          | false ↦ (row, is)
        ]

abbrev key_of : Option TableRow → ℕ
key_of None = 0
key_of (Some row) = row.key

none_some : (o : Option TableRow) (row : TableRow) → o ≡ Some row → o ≡ None → ⊥
none_some o row a b = absurd (cc (sym a ∙ b))

-- a home is not among the places behind it
none_behind : (home : Place) (qs : List Place)
    → AllByRecursion (λ q. is_place_before home q ≡ true) qs
    → list_any (same_place home) qs ≡ false
none_behind home [] each = refl
none_behind home (q ∷ qs) each =
    (λ i. not_same q each.0 i || list_any (same_place home) qs) ∙ none_behind home qs each.1
  where
    not_same : (q : Place) → is_place_before home q ≡ true → same_place home q ≡ false
    not_same q before = grind (arith, nat_tests, before)

other_place : (rows : Place → Option TableRow) (home p : Place) (row : TableRow)
    → rows home ≡ Some row → (rows p ≡ Some row → ⊥) → same_place home p ≡ false
other_place rows home p row there ne = elim (cases_Bool (same_place home p)) [
  | inl same ↦ absurd (ne (ap rows (sym (same_place-true home p same)) ∙ there))
  | inr other ↦ other
]

one_if : (a b : Bool) → a ≡ true → ◌≡◌ {A = ℕ} (cond (a || b) 1 0) 1
one_if a b e = λ i. cond (e i || b) 1 0

abbrev no_row : Option TableRow
no_row = None

all_none : (b : Bool) → cond b no_row no_row ≡ no_row
all_none true = refl
all_none false = refl

module _ (at : Place → Slot) (keys : ℕ → Option TableRow) (is : IsTable (row_at at) keys) where
  -- how many spots with a key there are: one, if its home is among the places
  counted : (k : ℕ) (home : Place) (row : TableRow) → row_at at home ≡ Some row → row.key ≡ k
      → (ps : List Place) → Rise ps
      → length (filter (λ s. s.key == k) (spots at ps)) ≡ cond (list_any (same_place home) ps) 1 0
  counted k home row there key [] rise = refl
  counted k home row there key (p ∷ ps) rise =
      go (row_at at p) refl (counted k home row there key ps rise.1)
    where
      rest : List Spot
      rest = filter (λ (s : Spot). s.key == k) (spots at ps)

      found : Bool
      found = list_any (same_place home) ps

      elsewhere : same_place home p ≡ false → length rest ≡ cond found 1 0
          → length rest ≡ cond (same_place home p || found) 1 0
      elsewhere other so_far = so_far ∙ sym (λ i. cond (other i || found) 1 0)

      here : p ≡ home → length rest ≡ cond found 1 0
          → length (p ∷ []) + length rest ≡ cond (same_place home p || found) 1 0
      here e so_far =
          let gone : found ≡ false =
          none_behind home ps
          (subst (λ h. AllByRecursion (λ q. is_place_before h q ≡ true) ps) e rise.0) in
          let same : same_place home p ≡ true = ap (same_place home) e ∙ same_place-refl home in
          let nothing : length rest ≡ 0 = so_far ∙ (λ i. cond (gone i) 1 0) in
          let one = one_if (same_place home p) found same in
          omega (arith, nothing, one)

      go : (r : Option TableRow) → row_at at p ≡ r → length rest ≡ cond found 1 0
          → length
          (filter (λ (s : Spot). s.key == k) (spot_of p (pointed_to (at p)) r ++ spots at ps))
          ≡ cond (same_place home p || found) 1 0
      go None e so_far = elsewhere
          (other_place (row_at at) home p row there (λ some. none_some (row_at at p) row some e))
          so_far
      go (Some r) e so_far = elim (r.key == k) as (λ b. (r.key == k) ≡ b
          → length (cond b (row_spot at p r ∷ rest) rest) ≡ cond (same_place home p || found) 1 0) [
            | true ↦ λ same.
                one_more
                (here (is.once p home r row e there (eqb-true r.key k same ∙ sym key)) so_far)
            | false ↦ λ other. elsewhere
                (other_place (row_at at) home p row there
                (λ some. false≢true (sym other ∙ eq-eqb r.key k (ap key_of (sym e ∙ some) ∙ key))))
                so_far
          ] refl
        where
          one_more : length (p ∷ []) + length rest ≡ cond (same_place home p || found) 1 0
              → length (row_spot at p r ∷ rest) ≡ cond (same_place home p || found) 1 0
          one_more e = omega (arith, e)

spots_right : (pages : List (List Slot)) (table : Table)
    → IsTable (row_at (slot_of pages)) (λ key. row_of table key)
    → are_spots_of table (spots_of pages) ≡ true
spots_right pages table is =
    and_from
    (list_all (λ entry. length (filter (λ spot. spot.key == entry.0) (spots_of pages)) == 1)
    (state.entries_of table))
    (list_all (λ spot. has_clus spot.clus (row_of table spot.key)) (spots_of pages))
    (all_from (λ entry. length (filter (λ spot. spot.key == entry.0) (spots_of pages)) == 1)
    (state.entries_of table)
    (Each-map (λ e. (row : TableRow) × (find nat_cmp e.0 (state.entries_of table) ≡ Some row))
    (λ entry. (length (filter (λ spot. spot.key == entry.0) (spots_of pages)) == 1) ≡ true)
    (λ e f. one e.0 f.0 f.1) (state.entries_of table) (entry_found (state.entries_of table))))
    (all_from (λ spot. has_clus spot.clus (row_of table spot.key)) (spots_of pages)
    (every_spot at (λ s. has_clus s.clus (row_of table s.key) ≡ true)
    (λ p row e. ap (has_clus row.clus) (is.there p row e) ∙ eq-eqb row.clus row.clus refl)
    (places_to pages (length pages))))
  where
    at : Place → Slot
    at = slot_of pages

    one : (k : ℕ) (row : TableRow) → find nat_cmp k (state.entries_of table) ≡ Some row
        → (length (filter (λ (spot : Spot). spot.key == k) (spots_of pages)) == 1) ≡ true
    one k row f =
        let placed = is.placed k row (get-entries table k ∙ f) in
        let among = is_among pages placed.1 (taken pages placed.1 row placed.2) in
        eq-eqb (length (filter (λ (spot : Spot). spot.key == k) (spots_of pages))) 1
        (counted at (λ key. row_of table key) is k placed.1 row placed.2 placed.0
        (places_to pages (length pages)) (all_rise pages (length pages))
        ∙ (λ i. cond (among i) 1 0))

-- ---- the listings

spot_rows : (at : Place → Slot) (table : Table) → IsTable (row_at at) (λ key. row_of table key)
    → (q : Place) (ps : List Place)
    → spot_row table (spots at ps) q ≡ cond (list_any (same_place q) ps) (row_at at q) None
spot_rows at table is q [] = refl
spot_rows at table is q (p ∷ ps) = go (row_at at p) refl (spot_rows at table is q ps)
  where
    found : Bool
    found = list_any (same_place q) ps

    rest : Option TableRow
    rest = spot_row table (spots at ps) q

    go : (r : Option TableRow) → row_at at p ≡ r → rest ≡ cond found (row_at at q) None
        → spot_row table (spot_of p (pointed_to (at p)) r ++ spots at ps) q
        ≡ cond (same_place q p || found) (row_at at q) None
    go None e so_far = elim (same_place q p) as
        (λ b. same_place q p ≡ b → rest ≡ cond (b || found) (row_at at q) None) [
          | true ↦
              λ same.
              (let none : row_at at q ≡ None = ap (row_at at) (same_place-true q p same) ∙ e in
              so_far ∙ (λ i. cond found (none i) None) ∙ all_none found ∙ sym none)
          | false ↦ λ other. so_far
        ] refl
    go (Some r) e so_far = elim (same_place q p) as (λ b. same_place q p ≡ b
        → cond b (fin.get table r.key) rest ≡ cond (b || found) (row_at at q) None) [
          | true ↦ λ same. is.there p r e ∙ sym (ap (row_at at) (same_place-true q p same) ∙ e)
          | false ↦ λ other. so_far
        ] refl

rows_are : (pages : List (List Slot)) (table : Table)
    → IsTable (row_at (slot_of pages)) (λ key. row_of table key) → (q : Place)
    → row_at (slot_of pages) q ≡ spot_row table (spots_of pages) q
rows_are pages table is q = sym
    (spot_rows (slot_of pages) table is q (places_to pages (length pages))
    ∙ go (row_at (slot_of pages) q) refl)
  where
    found : Bool
    found = list_any (same_place q) (places_to pages (length pages))

    go : (r : Option TableRow) → row_at (slot_of pages) q ≡ r
        → cond found (row_at (slot_of pages) q) None ≡ row_at (slot_of pages) q
    go None e = (λ i. cond found (e i) None) ∙ all_none found ∙ sym e
    go (Some r) e =
        λ i. cond (is_among pages q (taken pages q r e) i) (row_at (slot_of pages) q) None

same_listed : (es : List (ℕ × Place)) → same_list same_entry es es ≡ true
same_listed [] = refl
same_listed (e ∷ es) =
    and_from (same_entry e e) (same_list same_entry es es) (same_itself e) (same_listed es)

listing_right : (which : Which) (pages : List (List Slot)) (table : Table) (side : Side)
    (entries listed : List (ℕ × Place))
    → Tied (slot_of pages) → IsTable (row_at (slot_of pages)) (λ key. row_of table key)
    → side.spots ≡ spots_of pages → listed ≡ entries → IsRising entries
    → IsListingOf which (row_at (slot_of pages)) entries → is_listing which table side listed ≡ true
listing_right which pages table side entries listed tied is spots_are are rises lists =
    let at = slot_of pages in
    let ps = places_to pages (length pages) in
    let same : entries ≡ listing which table (spots_of pages) = listing_is which (row_at at) table
    (spots_of pages) entries (homes_differ at tied ps (all_rise pages (length pages)))
    (rows_are pages table is) rises lists in
    ap (λ (xs : List (ℕ × Place)). same_list same_entry xs (listing which table side.spots))
    (are ∙ same ∙ ap (listing which table) (sym spots_are))
    ∙ same_listed (listing which table side.spots)

-- ---- all of it

pub right_side : (pages : List (List Slot)) (x : Indexes) (side : Side) → side.pages ≡ length pages
    → side.spots ≡ spots_of pages
    → side.keys ≡ entries_of x.keys → side.cluses ≡ entries_of x.cluses
    → side.cats ≡ entries_of x.cats → IsRightFor pages x side
right_side pages x side count spots_are keys cluses cats tied table is lists =
    let ps = places_to pages (length pages) in
    let rise = all_rise pages (length pages) in
    let places : List Spot → List Place = λ ss. homes ss ++ overs ss in
    and_from (layout.are_rising (homes side.spots)) _
    (ap (λ (ss : List Spot). layout.are_rising (homes ss)) spots_are
    ∙ rising_from (homes (spots_of pages)) (homes_rise (slot_of pages) ps rise))
    (and_from (list_all (is_on_page side.pages) (places side.spots)) _
    ((λ i. list_all (is_on_page (count i)) (places (spots_are i)))
    ∙ all_from (is_on_page (length pages)) (places (spots_of pages)) (within_pages pages tied))
    (and_from (layout.are_different (places side.spots)) _
    (ap (λ (ss : List Spot). layout.are_different (places ss)) spots_are
    ∙ different_from (places (spots_of pages)) (all_differ (slot_of pages) tied ps rise))
    (and_from (are_spots_of table side.spots) _
    (ap (are_spots_of table) spots_are ∙ spots_right pages table is)
    (and_from (is_listing Key table side side.keys) _
    (listing_right Key pages table side (entries_of x.keys) side.keys tied is spots_are keys
    (IsRising-rising_part x.keys.entries) lists.keys)
    (and_from (is_listing Clus table side side.cluses) _
    (listing_right Clus pages table side (entries_of x.cluses) side.cluses tied is spots_are cluses
    (IsRising-rising_part x.cluses.entries) lists.cluses)
    (listing_right Cat pages table side (entries_of x.cats) side.cats tied is spots_are cats
    (IsRising-rising_part x.cats.entries) lists.cats))))))
