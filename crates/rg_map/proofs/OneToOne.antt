-- The targets stay one to one.
use Rattle.std.proofs.Common.{◌≡◌, Bool, true, false, cond, Option, Some, None, refl, sym, ◌∙◌}
use Rattle.std.specs.FinMap as map
use Rattle.std.specs.FinMap.{get-empty}
use Rattle.std.proofs.lemmas.Option.{none-some}
use Rattle.rg_base.specs.declared.place.Place.{Place}
use Rattle.rg_base.specs.Place.{same_place}
use Rattle.rg_base.proofs.SamePlace.{same_place-true}
use Rattle.rg_map.specs.Mapping.{place_cmp, Targets, IsOneToOne, IsFree}
use Rattle.rg_map.proofs.Places.{get-put, get-taken}

pub one-empty : IsOneToOne map.empty
one-empty a b target at_a at_b = absurd (none-some target (sym (get-empty place_cmp a) ∙ at_a))

both : (x y : Bool) (a b source target put : Place) (found_a found_b : Option Place)
    → (x ≡ true → a ≡ source) → (y ≡ true → b ≡ source)
    → (found_a ≡ Some put → ⊥) → (found_b ≡ Some put → ⊥)
    → (found_a ≡ Some target → found_b ≡ Some target → a ≡ b)
    → cond x (Some put) found_a ≡ Some target → cond y (Some put) found_b ≡ Some target → a ≡ b
both true true a b source target put found_a found_b here_a here_b free_a free_b one e f =
    here_a refl ∙ sym (here_b refl)
both true false a b source target put found_a found_b here_a here_b free_a free_b one e f =
    absurd (free_b (f ∙ sym e))
both false true a b source target put found_a found_b here_a here_b free_a free_b one e f =
    absurd (free_a (e ∙ sym f))
both false false a b source target put found_a found_b here_a here_b free_a free_b one e f = one e f

pub one-put : (targets : Targets) (source put : Place) → IsOneToOne targets → IsFree targets put
    → IsOneToOne (map.insert targets source put)
one-put targets source put one free a b target at_a at_b =
    both (same_place a source) (same_place b source) a b source target put (map.get targets a)
    (map.get targets b)
    (same_place-true a source) (same_place-true b source) (free a) (free b) (one a b target)
    (sym (get-put targets source put a) ∙ at_a) (sym (get-put targets source put b) ∙ at_b)

left : (x : Bool) (target : Place) (found : Option Place) → cond x None found ≡ Some target
    → found ≡ Some target
left true target found e = cc (e)
left false target found e = e

pub one-taken : (targets : Targets) (source : Place) → IsOneToOne targets
    → IsOneToOne (map.remove targets source)
one-taken targets source one a b target at_a at_b =
    one a b target
    (left (same_place a source) target (map.get targets a)
    (sym (get-taken targets source a) ∙ at_a))
    (left (same_place b source) target (map.get targets b)
    (sym (get-taken targets source b) ∙ at_b))
