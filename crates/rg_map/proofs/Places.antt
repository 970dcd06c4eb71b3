-- The order of places, and the targets that entries give.
use Rattle.std.proofs.Common.{◌≡◌, ◌==◌, ◌&&◌, ℕ, cond, List, [], ◌∷◌, Option, Some, None}
use Rattle.std.proofs.Common.{map as each, refl, sym, ◌∙◌, ap}
use Rattle.std.specs.Ordering.{nat_cmp, eq_by_cmp, is_eq}
use Rattle.std.specs.Cmp.{IsTotalOrder, then_total, on_total, tied_then, unsigned_tied}
use Rattle.std.specs.FinMap as map
use Rattle.std.specs.FinMap.{find, same_map, get-insert, get-remove, get-from_entries}
use Rattle.std.specs.Map.{lookup}
use Rattle.std.proofs.lemmas.Cmp.{nat_cmp_total}
use Rattle.rg_base.specs.declared.place.Place.{Place}
use Rattle.rg_base.specs.Place.{same_place}
use Rattle.rg_base.proofs.SamePlace.{same_place-true, same_place-turned}
use Rattle.rg_map.specs.Mapping.{place_cmp, Targets, at_place, targets_of}

pub place_total : IsTotalOrder place_cmp
place_total = then_total (on_total (λ (p : Place). p.page) nat_cmp_total)
    (on_total (λ (p : Place). p.slot) nat_cmp_total)

-- places tie where they are the same
pub tied : (p q : Place) → eq_by_cmp place_cmp p q ≡ same_place p q
tied p q = sym (tied_then (nat_cmp p.page q.page) (nat_cmp p.slot q.slot))
    ∙ ap (λ b. b && is_eq (nat_cmp p.slot q.slot)) (unsigned_tied p.page q.page)
    ∙ ap (λ b. (p.page == q.page) && b) (unsigned_tied p.slot q.slot)

pub place_antisymmetric : map.IsAntisymmetric place_cmp
place_antisymmetric p q e = same_place-true p q (sym (tied p q) ∙ ap is_eq e)

-- the map at each place after a change at one
pub get-put : (targets : Targets) (source target place : Place)
    → map.get (map.insert targets source target) place
    ≡ cond (same_place place source) (Some target) (map.get targets place)
get-put targets source target place = get-insert place_total targets source target place
    ∙ ap (λ b. cond b (Some target) (map.get targets place)) (tied place source)

pub get-taken : (targets : Targets) (source place : Place)
    → map.get (map.remove targets source) place
    ≡ cond (same_place place source) None (map.get targets place)
get-taken targets source place = get-remove place_total targets source place
    ∙ ap (λ b. cond b None (map.get targets place)) (tied place source)

-- what entries have at a place
abbrev pub found_at : List ((ℕ × ℕ) × Place) → ℕ × ℕ → Option Place
found_at entries key = lookup (λ other. key.0 == other.0 && key.1 == other.1) entries

find-lookup : (entries : List ((ℕ × ℕ) × Place)) (place : Place)
    → find place_cmp place (each at_place entries) ≡ found_at entries (place.page, place.slot)
find-lookup [] place = refl
find-lookup (e ∷ es) place =
    ap (λ b. cond b (Some e.1) (find place_cmp place (each at_place es)))
    (tied place (record { page = e.0.0; slot = e.0.1 }))
    ∙ ap (cond ((place.page == e.0.0) && (place.slot == e.0.1)) (Some e.1)) (find-lookup es place)

pub get-targets : (entries : List ((ℕ × ℕ) × Place)) (place : Place)
    → map.get (targets_of entries) place ≡ found_at entries (place.page, place.slot)
get-targets entries place =
    get-from_entries place_total (each at_place entries) place ∙ find-lookup entries place

module _ (old new : List ((ℕ × ℕ) × Place)) where
  -- entries that look alike give the same targets
  pub targets-same : ((key : ℕ × ℕ) → found_at new key ≡ found_at old key)
      → targets_of new ≡ targets_of old
  targets-same same = same_map place_total place_antisymmetric (targets_of new) (targets_of old)
      (λ place. get-targets new place ∙ same (place.page, place.slot) ∙ sym (get-targets old place))

  module _ (source : Place) (target : Option Place)
      (updates : (key : ℕ × ℕ)
      → found_at new key
      ≡ cond ((source.page == key.0) && (source.slot == key.1)) target (found_at old key)) where
    at_updated : (place : Place)
        → map.get (targets_of new) place
        ≡ cond (same_place place source) target (map.get (targets_of old) place)
    at_updated place =
        get-targets new place ∙ updates (place.page, place.slot)
        ∙ ap (λ b. cond b target (found_at old (place.page, place.slot)))
        (same_place-turned source place)
        ∙ ap (cond (same_place place source) target) (sym (get-targets old place))

  pub targets-put : (source target : Place)
      → ((key : ℕ × ℕ)
      → found_at new key
      ≡ cond ((source.page == key.0) && (source.slot == key.1)) (Some target) (found_at old key))
      → targets_of new ≡ map.insert (targets_of old) source target
  targets-put source target updates = same_map place_total place_antisymmetric _ _
      (λ place. at_updated source (Some target) updates place
      ∙ sym (get-put (targets_of old) source target place))

  pub targets-take : (source : Place)
      → ((key : ℕ × ℕ)
      → found_at new key
      ≡ cond ((source.page == key.0) && (source.slot == key.1)) None (found_at old key))
      → targets_of new ≡ map.remove (targets_of old) source
  targets-take source updates = same_map place_total place_antisymmetric _ _
      (λ place. at_updated source None updates place
      ∙ sym (get-taken (targets_of old) source place))
