-- What the plans of a put, a change and a drop may rest on, and what carrying them out leaves.
use Rattle.std.proofs.Common.{◌≡◌, ◌≤◌, ◌+◌, ◌*◌, ℕ, suc, Bool, true, List, Option, Some, None}
use Rattle.std.proofs.Common.{refl, sym, subst, arith}
use Rattle.std.specs.Prelude.{IfSome}
use Rattle.rg_base.specs.RowBytes.{row_size}
use Rattle.rg_base.specs.declared.place.Place.{Place}
use Rattle.rg_base.specs.declared.row.Row.{Row}
use Rattle.rg_laws_pages.specs.ByteClaims.Claim.{claimed_all, holding}
use Rattle.rg_laws_pages.proofs.ByteClaimsLemmas.Full.{no_change, no_put}
use Rattle.rg_laws_pages.proofs.ByteClaimsLemmas.Plans.{put_claims, change_claims, drop_claims}
use Rattle.rg_home.specs.Pages.{row_or_empty, slot_of}
use Rattle.rg_home.specs.Plan.{is_home, new_area, pages_after, planned_put, planned_change}
use Rattle.rg_home.specs.Plan.{planned_drop}
use Rattle.rg_home.specs.Rows.{row_at}
use Rattle.rg_home.specs.Slot.{Slot}
use Rattle.rg_home.specs.declared.plan.Plan.{Plan}
use Rattle.rg_laws_log.specs.LogState.Act.{LogState}
use Rattle.rg_laws_log.specs.LogState.Consistent.{IsConsistent}
use Rattle.rg_laws_log.specs.LogState.DeskLaws.{AreLiveWith, DeskWrites}
use Rattle.rg_laws_log.specs.LogState.Lawful.{MayBegin}
use Rattle.rg_laws_log.specs.LogState.Write.{HitBy, at_key}
use Rattle.rg_laws_log.proofs.LogStateLemmas.Desk.{desk_put, desk_change, desk_drop}
use Rattle.rg_laws_log.specs.PageBounds.Within.{IsWithin}
use Rattle.rg_laws_log.proofs.PageBoundsLemmas.Within.{change_within, drop_within, put_within}
use Rattle.rg_home.proofs.ChangeFits.{drop_itself}
use Rattle.rg_space.specs.Carries.{Carries}
use Rattle.rg_space.proofs.Carried.{put_carries, change_carries, drop_carries}
use Rattle.rg_engine.proofs.Claimed.{full_claims}

-- a plan that is lawful, that pages can carry, that claims no more than this, and that names pages
-- within the copy
pub record MayPlan (limit : ℕ) (s : LogState) (pages : List (List Slot)) (t more : ℕ)
    (after : Option Row) (plan : Plan) : Type 0 where
  pub lawful : DeskWrites limit s t plan.before after plan
  pub carries : Carries t 0 limit pages after plan
  pub grows :
      claimed_all (holding s.live (suc s.top)) (pages_after t (row_or_empty after) pages plan)
      ≤ claimed_all (holding s.live (suc s.top)) pages + more
  pub within : IsWithin limit plan.home plan.parts

pub of_some : {A : Type 0} (P : A → Type 0) (o : Option A) (x : A) → IfSome o P → Some x ≡ o → P x
of_some {A} P None x h e = absurd (cc (e))
of_some {A} P (Some y) x h e = let same : y ≡ x = cc (e) in subst P same h

same_before : (limit : ℕ) (s : LogState) (t : ℕ) (before after : Option Row) (plan : Plan)
    → DeskWrites limit s t before after plan → DeskWrites limit s t plan.before after plan
same_before limit s t before after plan lawful =
    subst (λ (x : Option Row). DeskWrites limit s t x after plan) (sym lawful.home_row) lawful

-- over plain lists of pages
module _ (limit : ℕ) (s : LogState) (good : IsConsistent limit s) (t : ℕ) (begin : MayBegin s t)
    (units : List ℕ) (are : AreLiveWith s t units) where
  abbrev holds : ℕ → Bool
  holds = holding s.live (suc s.top)

  pub may_put : (row : Row) (plan : Plan) → s.now row.key ≡ None → HitBy t (at_key row.key) s.writes
      → row_size row ≤ 826
      → Some plan
      ≡ planned_put units (row_size row) s.pages (new_area units (row_size row) limit s.pages)
      → (plan.before ≡ None) × MayPlan limit s s.pages t (18 + row_size row) (Some row) plan
  may_put row plan absent key small is =
      let planned =
      planned_put units (row_size row) s.pages (new_area units (row_size row) limit s.pages) in
      let fits : row_size row ≤ 4046 = omega (arith, small) in
      let lawful = of_some (λ p. DeskWrites limit s t None (Some row) p) planned plan
      (desk_put limit s good t begin units are row limit absent key fits (omega arith)) is in
      let carries = of_some (λ p. (p.before ≡ None) × Carries t 0 limit s.pages (Some row) p)
      planned plan (put_carries t 0 limit s.pages good.few good.ready.proper row units fits) is in (
        lawful.home_row,
        record {
          lawful = same_before limit s t None (Some row) plan lawful;
          carries = carries.1;
          grows = of_some
              (λ p. claimed_all holds (pages_after t row s.pages p)
              ≤ claimed_all holds s.pages + (18 + row_size row)) planned plan
              (put_claims holds t row units s.pages good.ready.proper.sound good.ready.proper.tied
              (row_size row) limit) is;
          within = put_within units (row_size row) limit s.pages plan (sym is);
        },
      )

  pub may_change : (home : Place) (old row : Row) (plan : Plan)
      → row_at (slot_of s.pages) home ≡ Some old → is_home (slot_of s.pages home) ≡ true
      → HitBy t (at_key old.key) s.writes → row.key ≡ old.key → row_size row ≤ 826
      → Some plan ≡ planned_change units (row_size row) limit s.pages home
      → (plan.before ≡ Some old) × MayPlan limit s s.pages t (18 + row_size row) (Some row) plan
  may_change home old row plan there is_there key same small is =
      let planned = planned_change units (row_size row) limit s.pages home in
      let fits : row_size row ≤ 4046 = omega (arith, small) in
      let lawful =
      of_some (λ p. (p.home ≡ home) × DeskWrites limit s t (Some old) (Some row) p) planned plan
      (desk_change limit s good t begin units are home old row limit there key same fits
      (omega arith)) is in
      let carries =
      of_some (λ p. (p.home ≡ home) × Carries t 0 limit s.pages (Some row) p) planned plan
      (change_carries t 0 limit s.pages good.few good.ready.proper row units home fits is_there)
      is in (
        lawful.1.home_row,
        record {
          lawful = same_before limit s t (Some old) (Some row) plan lawful.1;
          carries = carries.1;
          grows = of_some
              (λ p. claimed_all holds (pages_after t row s.pages p)
              ≤ claimed_all holds s.pages + (18 + row_size row)) planned plan
              (change_claims holds t row units s.pages good.ready.proper.sound
              good.ready.proper.tied home (row_size row) limit is_there) is;
          within = change_within units (row_size row) limit s.pages home plan good.ready.proper
              good.few is_there (sym is);
        },
      )

  pub may_drop : (home : Place) (old : Row) (plan : Plan) → row_at (slot_of s.pages) home ≡ Some old
      → is_home (slot_of s.pages home) ≡ true → HitBy t (at_key old.key) s.writes
      → plan ≡ planned_drop s.pages home (slot_of s.pages home)
      → (plan.before ≡ Some old) × MayPlan limit s s.pages t 0 None plan
  may_drop home old plan there is_there key is =
      let dropped = planned_drop s.pages home (slot_of s.pages home) in
      let lawful = desk_drop limit s good t begin units are home old there key in
      subst (λ (p : Plan). (p.before ≡ Some old) × MayPlan limit s s.pages t 0 None p) (sym is) (
        lawful.home_row,
        record {
          lawful = same_before limit s t (Some old) None dropped lawful;
          carries = drop_carries t 0 limit s.pages good.few good.ready.proper home is_there;
          grows = drop_claims holds t (row_or_empty None) units s.pages good.ready.proper.sound
              good.ready.proper.tied home (slot_of s.pages home) refl is_there;
          within =
              subst (λ (p : Place). IsWithin limit p dropped.parts)
              (sym (drop_itself s.pages home (slot_of s.pages home)).0)
              (drop_within limit s.pages home good.ready.proper good.few is_there);
        },
      )

  full : (b : ℕ) → b ≤ 826 → new_area units b limit s.pages ≡ None
      → 3221 * limit ≤ claimed_all holds s.pages
  full b small none = full_claims limit s t b units begin are.only small good.few none

  pub full_put : (b : ℕ) → b ≤ 826
      → planned_put units b s.pages (new_area units b limit s.pages) ≡ None
      → 3221 * limit ≤ claimed_all (holding s.live (suc s.top)) s.pages
  full_put b small none = full b small (no_put units b limit s.pages none)

  pub full_change : (b : ℕ) (home : Place) → b ≤ 826
      → planned_change units b limit s.pages home ≡ None
      → 3221 * limit ≤ claimed_all (holding s.live (suc s.top)) s.pages
  full_change b home small none = full b small (no_change units b limit s.pages home none)
