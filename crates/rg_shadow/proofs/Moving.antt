-- The row of one source comes, changes or goes.
use Rattle.std.proofs.Common.{◌≡◌, ◌≤◌, ◌+◌, Bool, true, false, cond, Option, Some, None, is_some}
use Rattle.std.proofs.Common.{refl, sym, ◌∙◌, ap, subst, arith}
use Rattle.std.specs.Prelude.{IsSomeAnd}
use Rattle.std.specs.FinMap as map
use Rattle.std.proofs.lemmas.Option.{same_Some}
use Rattle.rg_base.specs.declared.place.Place.{Place}
use Rattle.rg_base.specs.declared.row.Row.{Row}
use Rattle.rg_base.specs.declared.which.Which.{Which}
use Rattle.rg_base.proofs.Small.{not_both}
use Rattle.rg_laws_pages.specs.ByteClaims.Claim.{claimed_all, nobody}
use Rattle.rg_laws_pages.specs.ByteClaims.Weight.{weight}
use Rattle.rg_feed.specs.Fold.Fed.{SetsRow}
use Rattle.rg_home.specs.Pages.{row_or_empty, slot_of}
use Rattle.rg_home.specs.Plan.{pages_after}
use Rattle.rg_home.specs.Rows.{ChangesHome}
use Rattle.rg_map.specs.Mapping.{IsTarget, Targets}
use Rattle.rg_map.proofs.Places.{get-put, get-taken}
use Rattle.rg_base.specs.Place.{same_place}
use Rattle.rg_base.proofs.SamePlace.{same_place-true, same_place-refl, same_place-turned}
use Rattle.rg_reload.specs.Moved.{row_through}
use Rattle.rg_shadow.specs.Pieces.{IsMapped}
use Rattle.rg_shadow.specs.Planned.{AreUnlogged}
use Rattle.rg_shadow.specs.Shade.{Applies, Shade, home_rows, plan_at, plan_for, shade_slots}
use Rattle.rg_shadow.specs.Shade.{stage_in, target_of}
use Rattle.rg_shadow.specs.declared.drafts.IndexStage.TheVariants.{Built}

pub none_some : (o : Option Place) (x : Place) → o ≡ None → o ≡ Some x → ⊥
none_some o x e f = cc (e, f)

-- the target of a source that has this row at t
abbrev pub moved : Place → Option Row → Option Place
moved t None = None
moved t (Some row) = Some t

moved-some : (t x : Place) (after : Option Row) → moved t after ≡ Some x
    → (t ≡ x) × (is_some after ≡ true)
moved-some t x None e = absurd (cc (e))
moved-some t x (Some row) e = (same_Some t x e, refl)

moved-is : (t : Place) (after : Option Row) → is_some after ≡ true → moved t after ≡ Some t
moved-is t None e = absurd (cc (e))
moved-is t (Some row) e = refl

-- the target of one source is set
pub record SetsTarget (old new : Targets) (source : Place) (target : Option Place) : Type 0 where
  pub here : map.get new source ≡ target
  pub others : (q : Place) → same_place source q ≡ false → map.get new q ≡ map.get old q

-- the row at t is that of this source before and after, if there is one
pub record Moves (old new : Targets) (rows more : Place → Option Row) (source t : Place)
    (after : Option Row) : Type 0 where
  pub target : SetsTarget old new source (moved t after)
  pub row : SetsRow rows more t after
  pub alone : (s : Place) → same_place source s ≡ false → map.get old s ≡ Some t → ⊥
  pub only : (x : Place) → map.get old source ≡ Some x → x ≡ t

module _ (old new : Targets) (rows more : Place → Option Row) (source t : Place)
    (after : Option Row) (m : Moves old new rows more source t after) where
  at_source : (s x : Place) → same_place source s ≡ true → map.get new s ≡ Some x
      → (t ≡ x) × (is_some after ≡ true)
  at_source s x h e =
      moved-some t x after (sym m.target.here ∙ ap (map.get new) (same_place-true source s h) ∙ e)

  -- a target of another source is another place
  pub apart_from : (s x : Place) → same_place source s ≡ false → map.get old s ≡ Some x
      → same_place t x ≡ false
  apart_from s x h e = go (same_place t x) refl
    where
      go : (b : Bool) → same_place t x ≡ b → same_place t x ≡ false
      go true f =
          absurd (m.alone s h (e ∙ ap (λ (p : Place). Some p) (sym (same_place-true t x f))))
      go false f = f

  pub mapped : IsMapped old rows → IsMapped new more
  mapped was = record {
    single = λ s u x e f. single s u x e f (same_place source s) refl (same_place source u) refl;
    rows_are = λ s x e. rows_are s x e (same_place source s) refl;
    sources = λ x e. sources x e (same_place t x) refl;
  }
    where
      crossed : (s u x : Place) → same_place source s ≡ true → same_place source u ≡ false
          → map.get new s ≡ Some x → map.get new u ≡ Some x → ⊥
      crossed s u x h k e f = m.alone u k
          (sym (m.target.others u k) ∙ f ∙ ap (λ (p : Place). Some p) (sym (at_source s x h e).0))

      single : (s u x : Place) → map.get new s ≡ Some x → map.get new u ≡ Some x → (b : Bool)
          → same_place source s ≡ b → (d : Bool) → same_place source u ≡ d → s ≡ u
      single s u x e f true h true k = sym (same_place-true source s h) ∙ same_place-true source u k
      single s u x e f true h false k = absurd (crossed s u x h k e f)
      single s u x e f false h true k = absurd (crossed u s x k h f e)
      single s u x e f false h false k =
          was.single s u x (sym (m.target.others s h) ∙ e) (sym (m.target.others u k) ∙ f)

      rows_are : (s x : Place) → map.get new s ≡ Some x → (b : Bool) → same_place source s ≡ b
          → is_some (more x) ≡ true
      rows_are s x e true h = ap (λ p. is_some (more p)) (sym (at_source s x h e).0)
          ∙ ap is_some m.row.here ∙ (at_source s x h e).1
      rows_are s x e false h =
          let before : map.get old s ≡ Some x = sym (m.target.others s h) ∙ e in
          ap is_some (m.row.others x (apart_from s x h before)) ∙ was.rows_are s x before

      sources : (x : Place) → is_some (more x) ≡ true → (b : Bool) → same_place t x ≡ b
          → IsTarget new x
      sources x e true h =
          let is = same_place-true t x h in (
            source,
            m.target.here
                ∙ moved-is t after (ap is_some (sym m.row.here) ∙ ap (λ p. is_some (more p)) is ∙ e)
                ∙ ap (λ (p : Place). Some p) is,
          )
      sources x e false h = found (was.sources x (ap is_some (sym (m.row.others x h)) ∙ e))
        where
          found : IsTarget old x → IsTarget new x
          found (s, f) = (s, m.target.others s (off (same_place source s) refl) ∙ f)
            where
              off : (b : Bool) → same_place source s ≡ b → same_place source s ≡ false
              off true k =
                  let is = m.only x (ap (map.get old) (same_place-true source s k) ∙ f) in
                  absurd (not_both (same_place t x) (ap (same_place t) is ∙ same_place-refl t) h)
              off false k = k

  pub source_set : SetsRow (λ s. row_through rows (map.get old s))
      (λ s. row_through more (map.get new s)) source after
  source_set = record {
    here = ap (row_through more) m.target.here ∙ here after m.row.here;
    others = λ q h. ap (row_through more) (m.target.others q h) ∙ other q h (map.get old q) refl;
  }
    where
      here : (o : Option Row) → more t ≡ o → row_through more (moved t o) ≡ o
      here None e = refl
      here (Some row) e = e

      other : (q : Place) → same_place source q ≡ false → (o : Option Place) → map.get old q ≡ o
          → row_through more o ≡ row_through rows o
      other q h None e = refl
      other q h (Some x) e = m.row.others x (apart_from q x h e)

-- what a plan that is carried out does to the rows of the new copy
pub row_set : (old new : Shade) (t : Place) (after : Option Row)
    → ChangesHome (slot_of (shade_slots old)) (slot_of (shade_slots new)) t after
    → SetsRow (home_rows old) (home_rows new) t after
row_set old new t after c =
    record { here = c.here; others = λ q h. c.others q (sym (same_place-turned t q) ∙ h) }

-- all but the rows and the targets
pub record Else (old new : Shade) (source : Place) (after : Option Row) : Type 0 where
  pub pages : IsSomeAnd (plan_for old source after) (λ plan.
      shade_slots new ≡ pages_after 0 (row_or_empty after) (shade_slots old) plan)
  pub claims : claimed_all nobody (shade_slots new)
      ≤ claimed_all nobody (shade_slots old) + weight after
  pub positions : AreUnlogged old.pages → AreUnlogged new.pages
  pub copy : new.copy ≡ old.copy
  pub capacity : new.capacity ≡ old.capacity
  pub built : (which : Which) → stage_in which old ≡ Built → stage_in which new ≡ Built

pub applied : (old new : Shade) (source t : Place) (after : Option Row)
    → Moves old.targets new.targets (home_rows old) (home_rows new) source t after
    → ChangesHome (slot_of (shade_slots old)) (slot_of (shade_slots new)) t after
    → Else old new source after → Applies old source after new
applied old new source t after m changes rest = record {
  rows = source_set old.targets new.targets (home_rows old) (home_rows new) source t after m;
  targets = m.target.others;
  stays =
      λ x e f. m.target.here ∙ moved-is t after f ∙ ap (λ (p : Place). Some p) (sym (m.only x e));
  lie = λ q x h e. changes.lie x
      (sym (same_place-turned t x)
      ∙ apart_from old.targets new.targets (home_rows old) (home_rows new) source t after m q x h
      e);
  pages = rest.pages;
  claims = rest.claims;
  positions = rest.positions;
  copy = rest.copy;
  capacity = rest.capacity;
  built = rest.built;
}

-- a source without a row that is to have none
pub nothing : (s : Shade) (source : Place) → target_of s source ≡ None → Applies s source None s
nothing s source e = record {
  rows = record { here = ap (row_through (home_rows s)) e; others = λ q h. refl };
  targets = λ q h. refl;
  stays = λ x f g. absurd (none_some (target_of s source) x e f);
  lie = λ q x h f. refl;
  pages = subst
      (λ (o : Option Place). IsSomeAnd (plan_at s o None)
      (λ plan. shade_slots s ≡ pages_after 0 (row_or_empty None) (shade_slots s) plan)) (sym e)
      refl;
  claims = omega arith;
  positions = λ unlogged. unlogged;
  copy = refl;
  capacity = refl;
  built = λ which e. e;
}

-- the three kinds of moves

pub put_in : (old new : Targets) (rows more : Place → Option Row) (source t : Place) (row : Row)
    → IsMapped old rows
    → map.get old source ≡ None → rows t ≡ None → new ≡ map.insert old source t
    → SetsRow rows more t (Some row)
    → Moves old new rows more source t (Some row)
put_in old new rows more source t row was none fresh is sets = record {
  target = record {
    here = ap (λ ts. map.get ts source) is ∙ get-put old source t source
        ∙ ap (λ b. cond b (Some t) (map.get old source)) (same_place-refl source);
    others = λ q h. ap (λ ts. map.get ts q) is ∙ get-put old source t q
        ∙ ap (λ b. cond b (Some t) (map.get old q)) (sym (same_place-turned source q) ∙ h);
  };
  row = sets;
  alone = λ s h e. not_both (is_some (rows t)) (was.rows_are s t e) (ap is_some fresh);
  only = λ x e. absurd (none_some (map.get old source) x none e);
}

pub taken_out : (old new : Targets) (rows more : Place → Option Row) (source t : Place)
    → IsMapped old rows
    → map.get old source ≡ Some t → new ≡ map.remove old source → SetsRow rows more t None
    → Moves old new rows more source t None
taken_out old new rows more source t was there is sets = record {
  target = record {
    here = ap (λ ts. map.get ts source) is ∙ get-taken old source source
        ∙ ap (λ b. cond b None (map.get old source)) (same_place-refl source);
    others = λ q h. ap (λ ts. map.get ts q) is ∙ get-taken old source q
        ∙ ap (λ b. cond b None (map.get old q)) (sym (same_place-turned source q) ∙ h);
  };
  row = sets;
  alone = λ s h e. not_both (same_place source s)
      (ap (same_place source) (was.single s source t e there) ∙ same_place-refl source) h;
  only = λ x e. same_Some x t (sym e ∙ there);
}

pub replaced : (old new : Targets) (rows more : Place → Option Row) (source t : Place) (row : Row)
    → IsMapped old rows
    → map.get old source ≡ Some t → new ≡ old → SetsRow rows more t (Some row)
    → Moves old new rows more source t (Some row)
replaced old new rows more source t row was there is sets = record {
  target = record {
    here = ap (λ ts. map.get ts source) is ∙ there;
    others = λ q h. ap (λ ts. map.get ts q) is;
  };
  row = sets;
  alone = λ s h e. not_both (same_place source s)
      (ap (same_place source) (was.single s source t e there) ∙ same_place-refl source) h;
  only = λ x e. same_Some x t (sym e ∙ there);
}
