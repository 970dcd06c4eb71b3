-- An undo claims no more: each of its parts uses again an area that its owner holds.
use Rattle.std.proofs.Common.{◌≡◌, ◌⊎◌, inl, inr, ℕ, ◌≤◌, Bool, true, List, [], ◌∷◌, Some, refl}
use Rattle.std.proofs.Common.{◌∙◌, ap, if◌then◌else◌, arith}
use Rattle.rg_base.specs.declared.place.Place.{Place}
use Rattle.rg_base.specs.declared.row.Row.{Row as TableRow}
use Rattle.rg_base.specs.declared.part.Part.{Part}
use Rattle.rg_home.specs.Slot.{Slot}
use Rattle.rg_home.specs.Slot.{Free, Row, Pointer, Over, DeadRow, DeadPointer, DeadOver}
use Rattle.rg_home.specs.Slots.{capacity_of}
use Rattle.rg_home.specs.Pages.{slot_of, wrote, made, place_of, row_or_empty}
use Rattle.rg_home.specs.Written.{Written}
use Rattle.rg_home.specs.Undo.{undone, planned_undo}
use Rattle.rg_home.specs.Able.{IsHomeOf, IsAreaOf, Undoable, Proper}
use Rattle.rg_laws_pages.proofs.UndoRoomLemmas.Parts.{InTurn}
use Rattle.rg_laws_pages.proofs.UndoRoomLemmas.Shape.{ReusesOf}
use Rattle.rg_laws_pages.proofs.UndoRoomLemmas.Next.{reuses_of}
use Rattle.rg_laws_pages.specs.ByteClaims.Claim.{claim_of, claimed_all}
use Rattle.rg_laws_pages.proofs.ByteClaimsLemmas.Pages.{KeepsAll, keeps_claim}

module _ (h : ℕ → Bool) (owner : ℕ) (holds : h owner ≡ true) where
  -- a home or an area of the owner is claimed whole

  home_claim : (s : Slot) → IsHomeOf (Some owner) s → claim_of h s ≡ capacity_of s
  home_claim (Row c b) i = refl
  home_claim (Pointer c o) i = refl
  home_claim (DeadRow c t) i = ap (λ (b : Bool). if b then c else 0) (ap h i ∙ holds)
  home_claim (DeadPointer c o t) i = ap (λ (b : Bool). if b then c else 0) (ap h i ∙ holds)
  home_claim Free i = absurd i
  home_claim (Over c b p) i = absurd i
  home_claim (DeadOver c p t) i = absurd i

  area_claim : (home : Place) (s : Slot) → IsAreaOf (Some owner) home s
      → claim_of h s ≡ capacity_of s
  area_claim home (Over c b p) i = refl
  area_claim home (DeadOver c p t) i = ap (λ (b : Bool). if b then c else 0) (ap h i.1 ∙ holds)
  area_claim home Free i = absurd i
  area_claim home (Row c b) i = absurd i
  area_claim home (Pointer c o) i = absurd i
  area_claim home (DeadRow c t) i = absurd i
  area_claim home (DeadPointer c o t) i = absurd i

  reuse_claim : (home p : Place) (s s2 : Slot) → ReusesOf (Some owner) owner home p s s2
      → capacity_of s2 ≤ claim_of h s
  reuse_claim home p s s2 r = go r.3
    where
      go : ((p ≡ home) × IsHomeOf (Some owner) s × IsHomeOf (Some owner) s2)
          ⊎ (IsAreaOf (Some owner) home s × IsAreaOf (Some owner) home s2)
          → capacity_of s2 ≤ claim_of h s
      go (inl x) = omega (arith, r.1, home_claim s x.1)
      go (inr x) = omega (arith, r.1, area_claim home s x.0)

  reuses_claim : (home : Place) (after : TableRow) (pages : List (List Slot)) (parts : List Part)
      → InTurn (ReusesOf (Some owner) owner home) owner after pages parts
      → KeepsAll h owner after pages parts
  reuses_claim home after pages [] r = tt
  reuses_claim home after pages (x ∷ parts) r = (
    r.1.0,
    reuse_claim home (place_of x) (slot_of pages (place_of x)) (made owner after x.op) r.1,
    reuses_claim home after (wrote pages (place_of x) (made owner after x.op)) parts r.2,
  )

pub undo_claims : (h : ℕ → Bool) (c : Written) (pages : List (List Slot)) → h c.owner ≡ true
    → Proper pages → Undoable (Some c.owner) (slot_of pages) c
    → claimed_all h (undone pages c) ≤ claimed_all h pages
undo_claims h c pages holds proper can =
    keeps_claim h c.owner (row_or_empty c.before) pages (planned_undo pages c).parts
    (reuses_claim h c.owner holds c.home (row_or_empty c.before) pages (planned_undo pages c).parts
    (reuses_of (Some c.owner) c pages proper can))
