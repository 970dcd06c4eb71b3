-- Rows by place and rows by key stay tied: by a write, by an undo, and when all is taken back.
use Rattle.std.proofs.Common.{◌≡◌, ◌==◌, ℕ, Bool, true, false, List, [], ◌∷◌, Option, Some, refl}
use Rattle.std.proofs.Common.{sym, ◌∙◌, ap, subst, if◌then◌else◌}
use Rattle.std.proofs.lemmas.Bool.{eqb-true, eqb-false}
use Rattle.rg_base.specs.declared.place.Place.{Place}
use Rattle.rg_base.specs.declared.row.Row.{Row as TableRow}
use Rattle.rg_base.specs.Place.{same_place}
use Rattle.rg_base.proofs.SamePlace.{same_place-true, same_place-refl}
use Rattle.rg_base.proofs.Small.{nat_itself}
use Rattle.rg_home.specs.Undo.{taken_back}
use Rattle.rg_laws_log.specs.LogState.Write.{Write, at_home, at_key, Either, Back, gone_back}
use Rattle.rg_laws_log.specs.LogState.Write.{written_of, IsOf, AllOfKey}
use Rattle.rg_home.specs.Table.{IsTable}
use Rattle.rg_laws_log.proofs.LogStateLemmas.Hits.{back_first}

some_row : (a b : TableRow) → Some a ≡ Some b → a ≡ b
some_row a b e = cc (e)

of_some : (k : ℕ) (x : Option TableRow) (r : TableRow) → x ≡ Some r → IsOf k x → r.key ≡ k
of_some k x r e h = subst (IsOf k) e h

-- a home and a key, which had one row, are set to another
module _ (rows : Place → Option TableRow) (keys : ℕ → Option TableRow) (home : Place) (k : ℕ)
    (x y : Option TableRow) (tab : IsTable rows keys)
    (at : rows home ≡ x) (under : keys k ≡ x) (old : IsOf k x) (new : IsOf k y)
    (rows2 : Place → Option TableRow)
    (is : (p : Place) → rows2 p ≡ (if same_place p home then y else rows p))
    (keys2 : ℕ → Option TableRow) (are : (j : ℕ) → keys2 j ≡ (if k == j then y else keys j)) where
  on_home : (p : Place) → same_place p home ≡ true → rows2 p ≡ y
  on_home p e = is p ∙ ap (λ (b : Bool). if b then y else rows p) e

  off_home : (p : Place) → same_place p home ≡ false → rows2 p ≡ rows p
  off_home p e = is p ∙ ap (λ (b : Bool). if b then y else rows p) e

  on_key : (j : ℕ) → (k == j) ≡ true → keys2 j ≡ y
  on_key j e = are j ∙ ap (λ (b : Bool). if b then y else keys j) e

  off_key : (j : ℕ) → (k == j) ≡ false → keys2 j ≡ keys j
  off_key j e = are j ∙ ap (λ (b : Bool). if b then y else keys j) e

  -- another place has no row of this key
  no_other : (p : Place) (r : TableRow) → same_place p home ≡ false → rows p ≡ Some r → k ≡ r.key
      → ⊥
  no_other p r off e f =
      let under_k : keys k ≡ Some r = ap keys f ∙ tab.there p r e in
      let here : rows home ≡ Some r = at ∙ sym under ∙ under_k in
      let same : p ≡ home = tab.once p home r r e here refl in
      cc (off, same_place-refl home, ap (λ (q : Place). same_place q home) same)

  there2 : (p : Place) (r : TableRow) → rows2 p ≡ Some r → keys2 r.key ≡ Some r
  there2 p r e = go (same_place p home) refl (k == r.key) refl
    where
      go : (b : Bool) → same_place p home ≡ b → (c : Bool) → (k == r.key) ≡ c → keys2 r.key ≡ Some r
      go true f true g = on_key r.key g ∙ sym (on_home p f) ∙ e
      go true f false g =
          absurd (eqb-false k r.key g (sym (of_some k y r (sym (on_home p f) ∙ e) new)))
      go false f true g = absurd (no_other p r f (sym (off_home p f) ∙ e) (eqb-true k r.key g))
      go false f false g = off_key r.key g ∙ tab.there p r (sym (off_home p f) ∙ e)

  placed2 : (j : ℕ) (r : TableRow) → keys2 j ≡ Some r
      → (r.key ≡ j) × (p : Place) × (rows2 p ≡ Some r)
  placed2 j r e = go (k == j) refl
    where
      keep : (k == j) ≡ false → (r.key ≡ j) → (p : Place) → rows p ≡ Some r → (b : Bool)
          → same_place p home ≡ b → (r.key ≡ j) × (p : Place) × (rows2 p ≡ Some r)
      keep g f p h true o = absurd
          (eqb-false k j g
          (sym (of_some k x r (sym at ∙ ap rows (sym (same_place-true p home o)) ∙ h) old) ∙ f))
      keep g f p h false o = (f, p, off_home p o ∙ h)

      go : (b : Bool) → (k == j) ≡ b → (r.key ≡ j) × (p : Place) × (rows2 p ≡ Some r)
      go true g = (
        of_some k y r (sym (on_key j g) ∙ e) new ∙ eqb-true k j g,
        home,
        on_home home (same_place-refl home) ∙ sym (on_key j g) ∙ e,
      )
      go false g =
          let was = tab.placed j r (sym (off_key j g) ∙ e) in
          keep g was.0 was.1 was.2 (same_place was.1 home) refl

  once2 : (p q : Place) (r s : TableRow) → rows2 p ≡ Some r → rows2 q ≡ Some s → r.key ≡ s.key
      → p ≡ q
  once2 p q r s e f same = go (same_place p home) refl (same_place q home) refl
    where
      go : (b : Bool) → same_place p home ≡ b → (c : Bool) → same_place q home ≡ c → p ≡ q
      go true g true h = same_place-true p home g ∙ sym (same_place-true q home h)
      go true g false h = absurd
          (no_other q s h (sym (off_home q h) ∙ f)
          (sym (of_some k y r (sym (on_home p g) ∙ e) new) ∙ same))
      go false g true h = absurd
          (no_other p r g (sym (off_home p g) ∙ e)
          (sym (of_some k y s (sym (on_home q h) ∙ f) new) ∙ sym same))
      go false g false h = tab.once p q r s (sym (off_home p g) ∙ e) (sym (off_home q h) ∙ f) same

  pub table_set : IsTable rows2 keys2
  table_set = record { there = there2; placed = placed2; once = once2 }

-- all that is not yet undone, taken back
first_after : (hit : Write → Bool) (w : Write) (ws : List Write) (x : Option TableRow)
    → hit w ≡ true → Back hit (w ∷ ws) x → x ≡ w.after
first_after hit w ws x e k =
    (subst (λ (b : Bool). Either b ((x ≡ w.after) × Back hit ws w.written.before) (Back hit ws x)) e
    k).0

pub table_back : (ws : List Write) (rows : Place → Option TableRow) (keys : ℕ → Option TableRow)
    → IsTable rows keys → ((p : Place) → Back (at_home p) ws (rows p))
    → ((k : ℕ) → Back (at_key k) ws (keys k)) → AllOfKey ws
    → IsTable (λ p. gone_back (at_home p) ws (rows p)) (λ k. gone_back (at_key k) ws (keys k))
table_back [] rows keys tab hs ks of = tab
table_back (w ∷ ws) rows keys tab hs ks of =
    table_back ws (λ p. if same_place p w.written.home then w.written.before else rows p)
    (λ k. if w.key == k then w.written.before else keys k)
    (table_set rows keys w.written.home w.key w.after w.written.before tab
    (first_after (at_home w.written.home) w ws (rows w.written.home)
    (same_place-refl w.written.home) (hs w.written.home))
    (first_after (at_key w.key) w ws (keys w.key) (nat_itself w.key) (ks w.key))
    of.0.after of.0.before _ (λ p. refl) _ (λ k. refl))
    (λ p. back_first 0 (at_home p) w ws (rows p) (at_home p w) refl (hs p))
    (λ k. back_first 0 (at_key k) w ws (keys k) (at_key k w) refl (ks k))
    of.1

-- at a home it is what undo takes back
pub gone_taken : (p : Place) (ws : List Write) (x : Option TableRow)
    → gone_back (at_home p) ws x ≡ taken_back (written_of ws) p x
gone_taken p [] x = refl
gone_taken p (w ∷ ws) x =
    gone_taken p ws (if same_place p w.written.home then w.written.before else x)
