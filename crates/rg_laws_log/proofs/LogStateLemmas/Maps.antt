-- What undo reads of a list of writes: the same lists, by unit, as those of the undo of units.
use Rattle.std.proofs.Common.{◌≡◌, ◌==◌, ℕ, Bool, true, false, not, List, [], ◌∷◌, Option, Some}
use Rattle.std.proofs.Common.{None, refl, sym, ◌∙◌, ap, subst}
use Rattle.std.proofs.lemmas.Bool.{eq-eqb}
use Rattle.rg_base.specs.declared.place.Place.{Place}
use Rattle.rg_base.specs.declared.row.Row.{Row as TableRow}
use Rattle.rg_base.specs.Place.{same_place}
use Rattle.rg_base.proofs.SamePlace.{same_place-true, same_place-refl}
use Rattle.rg_home.specs.Written.{Written}
use Rattle.rg_home.specs.Able.{HomeOf}
use Rattle.rg_laws_pages.specs.UndoRoom.Ready.{latest, less, without, only}
use Rattle.rg_laws_log.specs.LogState.Write.{Write, at_home, at_key, Either, Back, HitBy, OneOwner}
use Rattle.rg_laws_log.specs.LogState.Write.{latest_if, latest_of, less_if, less_of, kept_if}
use Rattle.rg_laws_log.specs.LogState.Write.{kept_of, written_of, AllOfKey, IsOf}
use Rattle.rg_laws_log.specs.LogState.Act.{not_of}
use Rattle.rg_laws_pages.specs.UndoRoom.Ready as R

module _ (t : ℕ) where
  pub map_latest : (ws : List Write) (w : Write) → latest_of t ws ≡ Some w
      → latest t (written_of ws) ≡ Some w.written
  map_latest [] w e = absurd (cc (e))
  map_latest (d ∷ ws) w e = go (d.written.owner == t) e (map_latest ws w)
    where
      go : (b : Bool) → latest_if b d (latest_of t ws) ≡ Some w
          → (latest_of t ws ≡ Some w → latest t (written_of ws) ≡ Some w.written)
          → R.latest_when b d.written (latest t (written_of ws)) ≡ Some w.written
      go true e rest = ap (λ (o : Option Write). change_in o) e
        where
          change_in : Option Write → Option Written
          change_in None = None
          change_in (Some v) = Some v.written
      go false e rest = rest e

  pub map_less : (ws : List Write) → written_of (less_of t ws) ≡ less t (written_of ws)
  map_less [] = refl
  map_less (d ∷ ws) = go (d.written.owner == t) (map_less ws)
    where
      go : (b : Bool) → written_of (less_of t ws) ≡ less t (written_of ws)
          → written_of (less_if b d ws (less_of t ws))
          ≡ R.less_when b d.written (written_of ws) (less t (written_of ws))
      go true e = refl
      go false e = ap (λ (cs : List Written). d.written ∷ cs) e

  pub map_without : (ws : List Write)
      → written_of (kept_of (not_of t) ws) ≡ without t (written_of ws)
  map_without [] = refl
  map_without (d ∷ ws) = go (d.written.owner == t) (map_without ws)
    where
      go : (b : Bool) → written_of (kept_of (not_of t) ws) ≡ without t (written_of ws)
          → written_of (kept_if (not b) d (kept_of (not_of t) ws))
          ≡ R.left_when b d.written (without t (written_of ws))
      go true e = e
      go false e = ap (λ (cs : List Written). d.written ∷ cs) e

  pub map_only : (ws : List Write) → written_of (kept_of (λ u. u == t) ws) ≡ only t (written_of ws)
  map_only [] = refl
  map_only (d ∷ ws) = go (d.written.owner == t) (map_only ws)
    where
      go : (b : Bool) → written_of (kept_of (λ u. u == t) ws) ≡ only t (written_of ws)
          → written_of (kept_if b d (kept_of (λ u. u == t) ws))
          ≡ R.kept_when b d.written (only t (written_of ws))
      go true e = ap (λ (cs : List Written). d.written ∷ cs) e
      go false e = e

-- a home of one unit, said of writes
pub home_hit : (t : ℕ) (h p : Place) (ws : List Write) → p ≡ h → HomeOf t h (written_of ws)
    → HitBy t (at_home p) ws
home_hit t h p [] e of = tt
home_hit t h p (d ∷ ws) e of =
    (λ g. of.0 (sym (same_place-true p d.written.home g) ∙ e), home_hit t h p ws e of.1)

pub hit_home : (t : ℕ) (h : Place) (ws : List Write) → HitBy t (at_home h) ws
    → HomeOf t h (written_of ws)
hit_home t h [] of = tt
hit_home t h (d ∷ ws) of =
    (λ e. of.0 (ap (λ (q : Place). same_place h q) e ∙ same_place-refl h), hit_home t h ws of.1)

-- where a key is t's alone, so is a home with a row of that key
pub home_by_key : (t k : ℕ) (h : Place) (r : TableRow) (ws : List Write) → r.key ≡ k
    → HitBy t (at_key k) ws → OneOwner (at_home h) ws → AllOfKey ws → Back (at_home h) ws (Some r)
    → HitBy t (at_home h) ws
home_by_key t k h r [] e of one ok back = tt
home_by_key t k h r (d ∷ ws) e of one ok back =
    go (same_place h d.written.home) refl back (home_by_key t k h r ws e of.1 one.1 ok.1)
  where
    row_key : (x : Option TableRow) → Some r ≡ x → IsOf d.key x → d.key ≡ k
    row_key x f o = sym (subst (IsOf d.key) (sym f) o) ∙ e

    go : (b : Bool) → same_place h d.written.home ≡ b
        → Either b ((Some r ≡ d.after) × Back (at_home h) ws d.written.before)
        (Back (at_home h) ws (Some r))
        → (Back (at_home h) ws (Some r) → HitBy t (at_home h) ws)
        → (same_place h d.written.home ≡ true → d.written.owner ≡ t) × HitBy t (at_home h) ws
    go true g k2 rest =
        let owner : d.written.owner ≡ t =
        of.0 (eq-eqb d.key k (row_key d.after k2.0 ok.0.after)) in
        (λ f. owner, subst (λ (u : ℕ). HitBy u (at_home h) ws) owner (one.0 g))
    go false g k2 rest = ((λ f. absurd (cc (f, g))), rest k2)
