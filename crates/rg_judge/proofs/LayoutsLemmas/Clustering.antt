-- Rows in clustering order.
use Rattle.std.proofs.Common.{◌≡◌, ◌&&◌, ◌+◌, ◌-◌, nat_le, ℕ, Bool, true, false, cond, List, []}
use Rattle.std.proofs.Common.{◌∷◌, filter, Option, Some, None, refl, ◌∙◌, ap, arith}
use Rattle.std.specs.List.{list_all}
use Rattle.std.proofs.lemmas.Bool.Decides.{nat_tests}
use Rattle.std.proofs.lemmas.Bool.{and_parts}
use Rattle.rg_base.specs.declared.options.Options.{Options}
use Rattle.rg_base.specs.declared.row.Row.{Row}
use Rattle.rg_stmt.specs.declared.event.Entry.{Entry}
use Rattle.rg_stmt.specs.declared.layout.Spot.{Spot}
use Rattle.rg_model.specs.Packed.{area_of, free_part, home_spot, page_at, spots_from}
use Rattle.rg_model.specs.Right.{are_clustered, are_quiet_right, is_at_home, is_clustered_pair}
use Rattle.rg_judge.specs.Layouts.Clustered.{is_pair_behind, quiet_rises}
use Rattle.rg_judge.specs.Layouts.Packing.{spots_by}
use Rattle.rg_rules.specs.Tally.Tallied.{IsTallied, tally_quiet}
use Rattle.rg_judge.specs.declared.layouts.packing.Packing.{Packing}
use Rattle.rg_rules.specs.declared.tally.tally.Tally.{Tally}

spots_cases : (options : Options) (packing : Packing) (row : Row) (rows : List Row) (b : Bool)
    → ((p : Packing) → spots_by options p rows ≡ spots_from options p.filled p.slots p.free rows)
    → (cond b (home_spot (page_at options.freepage packing.filled) packing.slots row)
    (home_spot (page_at options.freepage (packing.filled + 1)) 0 row)
    ∷ spots_by options
    (cond b
    (record {
      filled = packing.filled;
      slots = packing.slots + 1;
      free = packing.free - area_of row;
    }) (record { filled = packing.filled + 1; slots = 1; free = 4064 - area_of row })) rows)
    ≡ cond b
    (home_spot (page_at options.freepage packing.filled) packing.slots row
    ∷ spots_from options packing.filled (packing.slots + 1) (packing.free - area_of row) rows)
    (home_spot (page_at options.freepage (packing.filled + 1)) 0 row
    ∷ spots_from options (packing.filled + 1) 1 (4064 - area_of row) rows)
spots_cases options packing row rows true is =
    ap (λ rest. home_spot (page_at options.freepage packing.filled) packing.slots row ∷ rest)
    (is
    (record {
      filled = packing.filled;
      slots = packing.slots + 1;
      free = packing.free - area_of row;
    }))
spots_cases options packing row rows false is =
    ap (λ rest. home_spot (page_at options.freepage (packing.filled + 1)) 0 row ∷ rest)
    (is (record { filled = packing.filled + 1; slots = 1; free = 4064 - area_of row }))

-- row by row is all at once
pub spots-by : (options : Options) (packing : Packing) (rows : List Row)
    → spots_by options packing rows
    ≡ spots_from options packing.filled packing.slots packing.free rows
spots-by options packing [] = refl
spots-by options packing (row ∷ rows) =
    spots_cases options packing row rows (nat_le (free_part options + area_of row) packing.free)
    (λ p. spots-by options p rows)

pair_trans : (a b c : Spot) → is_clustered_pair a b ≡ true → is_clustered_pair b c ≡ true
    → is_clustered_pair a c ≡ true
pair_trans a b c ab bc = grind (arith, nat_tests, ab, bc)

all_behind : (a b : Spot) (spots : List Spot) → is_clustered_pair a b ≡ true
    → list_all (is_clustered_pair b) spots ≡ true → list_all (is_clustered_pair a) spots ≡ true
all_behind a b [] ab all = refl
all_behind a b (c ∷ spots) ab all =
    let parts = and_parts (is_clustered_pair b c) (list_all (is_clustered_pair b) spots) all in
    rw (pair_trans a b c ab parts.0) (all_behind a b spots ab parts.1)

-- all lie at home, each not before the last one
abbrev rise_home : Option Spot → List Spot → Bool
rise_home last [] = true
rise_home last (spot ∷ spots) =
    is_at_home spot && (is_pair_behind last spot && rise_home (Some spot) spots)

three : (h p a hs bs c : Bool) → (p ≡ true → bs ≡ true → a ≡ true)
    → (h && (p && (hs && (bs && c)))) ≡ ((h && hs) && ((p && a) && (bs && c)))
three false p a hs bs c e = refl
three true false a true bs c e = refl
three true false a false bs c e = refl
three true true a false bs c e = refl
three true true a true true c e = rw (e refl refl) refl
three true true true true false c e = refl
three true true false true false c e = refl

home_behind : (last : Spot) (spots : List Spot)
    → rise_home (Some last) spots
    ≡
    (list_all is_at_home spots && (list_all (is_clustered_pair last) spots && are_clustered spots))
home_behind last [] = refl
home_behind last (spot ∷ spots) =
    ap (λ b. is_at_home spot && (is_clustered_pair last spot && b)) (home_behind spot spots)
    ∙ three (is_at_home spot) (is_clustered_pair last spot)
    (list_all (is_clustered_pair last) spots) (list_all is_at_home spots)
    (list_all (is_clustered_pair spot) spots) (are_clustered spots) (all_behind last spot spots)

regroup : (a b c : Bool) → (a && (b && c)) ≡ ((a && b) && c)
regroup true b c = refl
regroup false b c = refl

home_all : (spots : List Spot)
    → rise_home None spots ≡ (list_all is_at_home spots && are_clustered spots)
home_all [] = refl
home_all (spot ∷ spots) =
    ap (λ b. is_at_home spot && b) (home_behind spot spots)
    ∙ regroup (is_at_home spot) (list_all is_at_home spots) (are_clustered (spot ∷ spots))

quiet_step : (b : Bool) (q : ℕ → Bool) (last : Option Spot) (spot : Spot) (spots : List Spot)
    → cond b
    (is_at_home spot
    && (is_pair_behind last spot && rise_home (Some spot) (filter (λ s. q s.key) spots)))
    (rise_home last (filter (λ s. q s.key) spots))
    ≡ rise_home last (cond b (spot ∷ filter (λ s. q s.key) spots) (filter (λ s. q s.key) spots))
quiet_step true q last spot spots = refl
quiet_step false q last spot spots = refl

quiet_filter : (tally : Tally) (last : Option Spot) (spots : List Spot)
    → quiet_rises tally last spots ≡ rise_home last (filter (λ s. tally_quiet tally s.key) spots)
quiet_filter tally last [] = refl
quiet_filter tally last (spot ∷ spots) =
    (λ i. cond (tally_quiet tally spot.key)
    (is_at_home spot && (is_pair_behind last spot && quiet_filter tally (Some spot) spots i))
    (quiet_filter tally last spots i))
    ∙ quiet_step (tally_quiet tally spot.key) (tally_quiet tally) last spot spots

-- the quiet rows are right, by what is kept of the entries
pub quiet-right : (past : List Entry) (tally : Tally) (spots : List Spot) → IsTallied past tally
    → quiet_rises tally None spots ≡ are_quiet_right past spots
quiet-right past tally spots is =
    quiet_filter tally None spots
    ∙ home_all (filter (λ s. tally_quiet tally s.key) spots)
    ∙ ap
    (λ (q : ℕ → Bool). list_all is_at_home (filter (λ s. q s.key) spots)
    && are_clustered (filter (λ s. q s.key) spots)) (λ i key. is.quiet key i)
