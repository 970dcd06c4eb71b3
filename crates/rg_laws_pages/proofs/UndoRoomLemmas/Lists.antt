-- The writes of the live units, with a unit's latest taken away, or with all of a unit's.
use Rattle.std.proofs.Common.{◌≡◌, ◌==◌, ℕ, ◌+◌, Bool, true, false, List, [], ◌∷◌, length, Option}
use Rattle.std.proofs.Common.{Some, None, refl, sym, ◌∙◌, ap, subst, if◌then◌else◌, arith}
use Rattle.std.proofs.lemmas.Bool.{eqb-true, eqb-false}
use Rattle.rg_base.specs.declared.place.Place.{Place}
use Rattle.rg_base.specs.declared.row.Row.{Row as TableRow}
use Rattle.rg_home.specs.Slot.{Slot}
use Rattle.rg_base.specs.Place.{same_place}
use Rattle.rg_base.proofs.SamePlace.{same_place-true}
use Rattle.rg_home.specs.Written.{Written}
use Rattle.rg_home.specs.Undo.{taken_back}
use Rattle.rg_home.specs.Able.{Undoable, CanUndo, HomeOf, Apart}
use Rattle.rg_laws_pages.specs.UndoRoom.Ready.{latest, latest_when, less, less_when, only}
use Rattle.rg_laws_pages.specs.UndoRoom.Ready.{kept_when, without, left_when}

-- a write is apart from each of these
abbrev pub AllApart : Written → List Written → Type 0
AllApart c [] = Unit {0}
AllApart c (d ∷ cs) = (d.home ≡ c.home → c.owner ≡ d.owner) × AllApart c cs

homes_apart : (c : Written) (cs : List Written) → HomeOf c.owner c.home cs → AllApart c cs
homes_apart c [] h = tt
homes_apart c (d ∷ cs) h = (λ e. sym (h.0 e), homes_apart c cs h.1)

some_is : (c d : Written) → Some c ≡ Some d → c ≡ d
some_is c d e = cc (e)

module _ (t : ℕ) where
  pub latest_owner : (cs : List Written) (c : Written) → latest t cs ≡ Some c → c.owner ≡ t
  latest_owner [] c e = absurd (cc (e))
  latest_owner (d ∷ cs) c e = go (d.owner == t) refl e (latest_owner cs c)
    where
      go : (b : Bool) → (d.owner == t) ≡ b → latest_when b d (latest t cs) ≡ Some c
          → (latest t cs ≡ Some c → c.owner ≡ t) → c.owner ≡ t
      go true f e rest = ap (λ (x : Written). x.owner) (sym (some_is d c e)) ∙ eqb-true d.owner t f
      go false f e rest = rest e

  latest_home : (u : ℕ) (h : Place) (cs : List Written) (c : Written) → HomeOf u h cs
      → latest t cs ≡ Some c → c.home ≡ h → c.owner ≡ u
  latest_home u h [] c a e = absurd (cc (e))
  latest_home u h (d ∷ cs) c a e = go (d.owner == t) e (latest_home u h cs c a.1)
    where
      go : (b : Bool) → latest_when b d (latest t cs) ≡ Some c
          → (latest t cs ≡ Some c → c.home ≡ h → c.owner ≡ u) → c.home ≡ h → c.owner ≡ u
      go true e rest = subst (λ (x : Written). x.home ≡ h → x.owner ≡ u) (some_is d c e) a.0
      go false e rest = rest e

  pub latest_apart : (cs : List Written) (c : Written) → Apart cs → latest t cs ≡ Some c
      → AllApart c cs
  latest_apart [] c a e = tt
  latest_apart (d ∷ cs) c a e = go (d.owner == t) e (latest_apart cs c a.1)
    where
      go : (b : Bool) → latest_when b d (latest t cs) ≡ Some c
          → (latest t cs ≡ Some c → AllApart c cs) → AllApart c (d ∷ cs)
      go true e rest = subst (λ (x : Written). AllApart x (d ∷ cs)) (some_is d c e)
          ((λ f. refl), homes_apart d cs a.0)
      go false e rest = ((λ f. latest_home d.owner d.home cs c a.0 e (sym f)), rest e)

  pub latest_can : (live : List ℕ) (at : Place → Slot) (cs : List Written) (c : Written)
      → CanUndo live at cs → latest t cs ≡ Some c → Undoable (Some c.owner) at c
  latest_can live at [] c can e = absurd (cc (e))
  latest_can live at (d ∷ cs) c can e = go (d.owner == t) e (latest_can live at cs c can.2)
    where
      go : (b : Bool) → latest_when b d (latest t cs) ≡ Some c
          → (latest t cs ≡ Some c → Undoable (Some c.owner) at c) → Undoable (Some c.owner) at c
      go true e rest = subst (λ (x : Written). Undoable (Some x.owner) at x) (some_is d c e) can.0
      go false e rest = rest e

  pub can_less : (live : List ℕ) (at : Place → Slot) (cs : List Written) → CanUndo live at cs
      → CanUndo live at (less t cs)
  can_less live at [] can = tt
  can_less live at (d ∷ cs) can = go (d.owner == t) (can_less live at cs can.2)
    where
      go : (b : Bool) → CanUndo live at (less t cs) → CanUndo live at (less_when b d cs (less t cs))
      go true rest = can.2
      go false rest = (can.0, can.1, rest)

  home_less : (u : ℕ) (h : Place) (cs : List Written) → HomeOf u h cs → HomeOf u h (less t cs)
  home_less u h [] a = tt
  home_less u h (d ∷ cs) a = go (d.owner == t) (home_less u h cs a.1)
    where
      go : (b : Bool) → HomeOf u h (less t cs) → HomeOf u h (less_when b d cs (less t cs))
      go true rest = a.1
      go false rest = (a.0, rest)

  pub apart_less : (cs : List Written) → Apart cs → Apart (less t cs)
  apart_less [] a = tt
  apart_less (d ∷ cs) a = go (d.owner == t) (apart_less cs a.1)
    where
      go : (b : Bool) → Apart (less t cs) → Apart (less_when b d cs (less t cs))
      go true rest = a.1
      go false rest = (home_less d.owner d.home cs a.0, rest)

  -- a unit's latest write may be taken back first
  swap : (b1 b2 : Bool) (x y r : Option TableRow) → (b1 ≡ true → b2 ≡ true → ⊥)
      → (if b1 then x else (if b2 then y else r)) ≡ (if b2 then y else (if b1 then x else r))
  swap true true x y r n = absurd (n refl refl)
  swap true false x y r n = refl
  swap false true x y r n = refl
  swap false false x y r n = refl

  pub back_less : (cs : List Written) (c : Written) (p : Place) (r : Option TableRow) → Apart cs
      → latest t cs ≡ Some c
      → taken_back cs p r ≡ taken_back (less t cs) p (if same_place p c.home then c.before else r)
  back_less [] c p r a e = absurd (cc (e))
  back_less (d ∷ cs) c p r a e = go (d.owner == t) refl e (λ x e. back_less cs c p x a.1 e)
    where
      go : (b : Bool) → (d.owner == t) ≡ b → latest_when b d (latest t cs) ≡ Some c
          → ((x : Option TableRow) → latest t cs ≡ Some c
          → taken_back cs p x
          ≡ taken_back (less t cs) p (if same_place p c.home then c.before else x))
          → taken_back (d ∷ cs) p r
          ≡ taken_back (less_when b d cs (less t cs)) p
          (if same_place p c.home then c.before else r)
      go true f e rest =
          ap (λ (x : Written). taken_back cs p (if same_place p x.home then x.before else r))
          (some_is d c e)
      go false f e rest =
          rest (if same_place p d.home then d.before else r) e
          ∙ ap (taken_back (less t cs) p)
          (swap (same_place p c.home) (same_place p d.home) c.before d.before r
          (λ g h. eqb-false d.owner t f
          (sym
          (latest_home d.owner d.home cs c a.0 e
          (sym (same_place-true p c.home g) ∙ same_place-true p d.home h)) ∙ latest_owner cs c e)))

  -- all of a unit's

  pub only_some : (cs : List Written) (c : Written) → latest t cs ≡ Some c
      → only t cs ≡ c ∷ only t (less t cs)
  only_some [] c e = absurd (cc (e))
  only_some (d ∷ cs) c e = go (d.owner == t) refl e (only_some cs c)
    where
      go : (b : Bool) → (d.owner == t) ≡ b → latest_when b d (latest t cs) ≡ Some c
          → (latest t cs ≡ Some c → only t cs ≡ c ∷ only t (less t cs))
          → kept_when b d (only t cs) ≡ c ∷ only t (less_when b d cs (less t cs))
      go true f e rest = ap (λ (x : Written). x ∷ only t cs) (some_is d c e)
      go false f e rest = rest e ∙ ap (λ (b : Bool). c ∷ kept_when b d (only t (less t cs))) (sym f)

  pub without_some : (cs : List Written) (c : Written) → latest t cs ≡ Some c
      → without t cs ≡ without t (less t cs)
  without_some [] c e = absurd (cc (e))
  without_some (d ∷ cs) c e = go (d.owner == t) refl e (without_some cs c)
    where
      go : (b : Bool) → (d.owner == t) ≡ b → latest_when b d (latest t cs) ≡ Some c
          → (latest t cs ≡ Some c → without t cs ≡ without t (less t cs))
          → left_when b d (without t cs) ≡ without t (less_when b d cs (less t cs))
      go true f e rest = refl
      go false f e rest = ap (λ (r : List Written). d ∷ r) (rest e)
          ∙ ap (λ (b : Bool). left_when b d (without t (less t cs))) (sym f)

  pub only_none : (cs : List Written) → latest t cs ≡ None → only t cs ≡ []
  only_none [] e = refl
  only_none (d ∷ cs) e = go (d.owner == t) e (only_none cs)
    where
      go : (b : Bool) → latest_when b d (latest t cs) ≡ None → (latest t cs ≡ None → only t cs ≡ [])
          → kept_when b d (only t cs) ≡ []
      go true e rest = absurd (cc (e))
      go false e rest = rest e

  pub without_none : (cs : List Written) → latest t cs ≡ None → without t cs ≡ cs
  without_none [] e = refl
  without_none (d ∷ cs) e = go (d.owner == t) e (without_none cs)
    where
      go : (b : Bool) → latest_when b d (latest t cs) ≡ None
          → (latest t cs ≡ None → without t cs ≡ cs) → left_when b d (without t cs) ≡ d ∷ cs
      go true e rest = absurd (cc (e))
      go false e rest = ap (λ (r : List Written). d ∷ r) (rest e)

  pub less_length : (cs : List Written) (c : Written) → latest t cs ≡ Some c
      → length (less t cs) + 1 ≡ length cs
  less_length [] c e = absurd (cc (e))
  less_length (d ∷ cs) c e = go (d.owner == t) e (less_length cs c)
    where
      go : (b : Bool) → latest_when b d (latest t cs) ≡ Some c
          → (latest t cs ≡ Some c → length (less t cs) + 1 ≡ length cs)
          → length (less_when b d cs (less t cs)) + 1 ≡ length (d ∷ cs)
      go true e rest = omega arith
      go false e rest = omega (arith, rest e)

  pub can_without : (live : List ℕ) (at : Place → Slot) (cs : List Written) → CanUndo live at cs
      → CanUndo live at (without t cs)
  can_without live at [] can = tt
  can_without live at (d ∷ cs) can = go (d.owner == t) (can_without live at cs can.2)
    where
      go : (b : Bool) → CanUndo live at (without t cs)
          → CanUndo live at (left_when b d (without t cs))
      go true rest = rest
      go false rest = (can.0, can.1, rest)

  home_without : (u : ℕ) (h : Place) (cs : List Written) → HomeOf u h cs → HomeOf u h (without t cs)
  home_without u h [] a = tt
  home_without u h (d ∷ cs) a = go (d.owner == t) (home_without u h cs a.1)
    where
      go : (b : Bool) → HomeOf u h (without t cs) → HomeOf u h (left_when b d (without t cs))
      go true rest = rest
      go false rest = (a.0, rest)

  pub apart_without : (cs : List Written) → Apart cs → Apart (without t cs)
  apart_without [] a = tt
  apart_without (d ∷ cs) a = go (d.owner == t) (apart_without cs a.1)
    where
      go : (b : Bool) → Apart (without t cs) → Apart (left_when b d (without t cs))
      go true rest = rest
      go false rest = (home_without d.owner d.home cs a.0, rest)
