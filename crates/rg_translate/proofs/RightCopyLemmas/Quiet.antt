-- Quiet spots lie right where each is that of a packed row at its home.
use Rattle.std.proofs.Common.{◌≡◌, ◌≤◌, ◌<◌, inl, inr, Bool, true, false, not, is_some, List, []}
use Rattle.std.proofs.Common.{◌∷◌, Option, Some, None, if◌then◌else◌, refl, sym, ◌∙◌, ap, arith}
use Rattle.std.specs.List.{AllByRecursion, list_all}
use Rattle.std.proofs.lemmas.Bool.{and_from}
use Rattle.std.proofs.lemmas.Bool.Decides.{nat_tests}
use Rattle.rg_base.specs.declared.place.Place.{Place}
use Rattle.rg_base.specs.declared.row.Row.{Row}
use Rattle.rg_feed.specs.Fold.Fold.{row_in}
use Rattle.rg_model.specs.Layout.{is_place_before}
use Rattle.rg_model.specs.Quiet.{is_quiet}
use Rattle.rg_model.specs.Right.{are_clustered, are_quiet_right, is_at_home, is_clustered_pair}
use Rattle.rg_model.specs.Right.{quiet_spots}
use Rattle.rg_laws_utility.specs.TraceLocks.Rising.{InTurn}
use Rattle.rg_laws_utility.proofs.TraceLocksLemmas.Sorting.{LiesBefore}
use Rattle.rg_stmt.specs.declared.event.Entry.{Entry}
use Rattle.rg_stmt.specs.declared.layout.Spot.{Spot}
use Rattle.rg_translate.proofs.RightCopyLemmas.InOrder.{NotAfter}
use Rattle.rg_translate.proofs.RightCopyLemmas.Lying.{IsAmong}
use Rattle.rg_translate.proofs.PackedCopyLemmas.Quiet.{all_quiet}

-- ---- the quiet ones among spots

turn_quiet : (R : Spot → Spot → Type 0) (past : List Entry) (spots : List Spot) → InTurn R spots
    → InTurn R (quiet_spots past spots)
turn_quiet R past [] w = tt
turn_quiet R past (s ∷ spots) w = go (is_quiet s.key past) (turn_quiet R past spots w.1)
  where
    go : (b : Bool) → InTurn R (quiet_spots past spots)
        → InTurn R (if b then s ∷ quiet_spots past spots else quiet_spots past spots)
    go true rest = (all_quiet (R s) past spots w.0, rest)
    go false rest = rest

-- what holds of each spot whose key is quiet holds of the quiet spots
each_quiet : (P : Spot → Type 0) (past : List Entry) (spots : List Spot)
    → AllByRecursion (λ s. is_quiet s.key past ≡ true → P s) spots
    → AllByRecursion P (quiet_spots past spots)
each_quiet P past [] each = tt
each_quiet P past (s ∷ spots) each = go (is_quiet s.key past) refl (each_quiet P past spots each.1)
  where
    go : (b : Bool) → is_quiet s.key past ≡ b → AllByRecursion P (quiet_spots past spots)
        → AllByRecursion P (if b then s ∷ quiet_spots past spots else quiet_spots past spots)
    go true e rest = (each.0 e, rest)
    go false e rest = rest

-- ---- spots of rows in order

clus_test : (a b : Spot) → a.clus < b.clus → is_clustered_pair a b ≡ true
clus_test a b h = grind (arith, nat_tests, h)

key_test : (a b : Spot) → a.clus ≡ b.clus → a.key ≤ b.key → is_clustered_pair a b ≡ true
key_test a b e h = grind (arith, nat_tests, e, h)

home_test : (s : Spot) → s.over ≡ None → is_at_home s ≡ true
home_test s e = ap (λ (o : Option Place). not (is_some o)) e

module _ (rows : List (Place × Row))
    (order : (p q : Place) (row other : Row) → row_in rows p ≡ Some row → row_in rows q ≡ Some other
    → is_place_before p q ≡ true → NotAfter row other) where
  pair_test : (a b : Spot) → IsAmong rows a → IsAmong rows b → LiesBefore a b
      → is_clustered_pair a b ≡ true
  pair_test a b one two before =
      go (order a.place b.place one.row two.row one.row_is two.row_is before)
    where
      go : NotAfter one.row two.row → is_clustered_pair a b ≡ true
      go (inl h) = clus_test a b (omega (arith, h, one.clus, two.clus))
      go (inr h) =
          key_test a b (one.clus ∙ h.0 ∙ sym two.clus) (omega (arith, h.1, one.key, two.key))

  pairs_test : (s : Spot) (spots : List Spot) → IsAmong rows s → AllByRecursion (IsAmong rows) spots
      → AllByRecursion (LiesBefore s) spots → list_all (is_clustered_pair s) spots ≡ true
  pairs_test s [] is among before = refl
  pairs_test s (x ∷ spots) is among before =
      and_from (is_clustered_pair s x) (list_all (is_clustered_pair s) spots)
      (pair_test s x is among.0 before.0) (pairs_test s spots is among.1 before.1)

  clustered : (spots : List Spot) → AllByRecursion (IsAmong rows) spots → InTurn LiesBefore spots
      → are_clustered spots ≡ true
  clustered [] among w = refl
  clustered (s ∷ spots) among w =
      and_from (list_all (is_clustered_pair s) spots) (are_clustered spots)
      (pairs_test s spots among.0 among.1 w.0) (clustered spots among.1 w.1)

  at_home : (spots : List Spot) → AllByRecursion (IsAmong rows) spots
      → list_all is_at_home spots ≡ true
  at_home [] among = refl
  at_home (s ∷ spots) among = and_from (is_at_home s) (list_all is_at_home spots)
      (home_test s among.0.home) (at_home spots among.1)

  pub quiet_right : (past : List Entry) (spots : List Spot)
      → AllByRecursion (λ s. is_quiet s.key past ≡ true → IsAmong rows s) spots
      → InTurn LiesBefore spots
      → are_quiet_right past spots ≡ true
  quiet_right past spots each w =
      let among = each_quiet (IsAmong rows) past spots each in
      and_from (list_all is_at_home (quiet_spots past spots))
      (are_clustered (quiet_spots past spots)) (at_home (quiet_spots past spots) among)
      (clustered (quiet_spots past spots) among (turn_quiet LiesBefore past spots w))
