-- What pages claim after a write.
use Rattle.std.proofs.Common.{◌≡◌, ◌==◌, ◌||◌, ◌≤◌, ◌+◌, ◌*◌, ℕ, suc, Bool, true, false, List, ◌∷◌}
use Rattle.std.proofs.Common.{Option, None, length, refl, sym, ◌∙◌, ap, subst, ◌⊎◌, inl, inr, arith}
use Rattle.std.proofs.lemmas.Bool.{le-leb}
use Rattle.std.specs.List.{list_any}
use Rattle.rg_base.specs.declared.row.Row.{Row}
use Rattle.rg_home.specs.Able.{IsLive}
use Rattle.rg_home.specs.Pages.{row_or_empty}
use Rattle.rg_home.specs.Plan.{new_area, pages_after}
use Rattle.rg_home.specs.declared.plan.Plan.{Plan}
use Rattle.rg_laws_pages.specs.ByteClaims.Claim.{Covers, Fewer, claimed_all, holding}
use Rattle.rg_laws_pages.proofs.ByteClaimsLemmas.Full.{full_bound}
use Rattle.rg_laws_pages.proofs.ByteClaimsLemmas.Owners.{covers, begins, ends}
use Rattle.rg_laws_pages.proofs.ByteClaimsLemmas.Pages.{claimed_all-fewer}
use Rattle.rg_laws_log.specs.LogState.Act.{LogState, step}
use Rattle.rg_laws_log.specs.LogState.Act.{Change, Purge}
use Rattle.rg_laws_log.specs.LogState.Consistent.{IsConsistent}
use Rattle.rg_laws_log.specs.LogState.DeskLaws.{DeskWrites}
use Rattle.rg_laws_log.specs.LogState.Lawful.{MayBegin}
use Rattle.rg_laws_log.specs.LogState.Write.{Write, write_of}
use Rattle.rg_laws_log.proofs.LogStateLemmas.Live.{live_known, live_other}
use Rattle.rg_laws_log.proofs.LogStateLemmas.Units.{top_known, top_drawn}
use Rattle.rg_engine.proofs.Keys.{same_or_not}

-- the holders after a write hold no more than those before
holders_fewer : (limit : ℕ) (s : LogState) (w : Write) → IsConsistent limit s
    → MayBegin s w.written.owner
    → Fewer (holding s.live (suc s.top))
    (holding (w.written.owner ∷ s.live) (suc (step s (Change w)).top))
holders_fewer limit s w good begin = go begin.number
  where
    t : ℕ
    t = w.written.owner

    go : IsLive s.live t ⊎ (t ≡ suc s.top)
        → Fewer (holding s.live (suc s.top)) (holding (t ∷ s.live) (suc (step s (Change w)).top))
    go (inl l) =
        subst (λ (n : ℕ). Fewer (holding s.live (suc s.top)) (holding (t ∷ s.live) (suc n)))
        (sym (top_known limit s w (good.fresh t l)))
        (ends s.live (t ∷ s.live) (suc s.top) (λ u m. live_known s.live t u l m))
    go (inr e) =
        subst (λ (n : ℕ). Fewer (holding s.live (suc s.top)) (holding (t ∷ s.live) (suc n)))
        (sym (top_drawn limit s w e)) (subst
        (λ (u : ℕ). Fewer (holding s.live (suc s.top)) (holding (u ∷ s.live) (suc (suc s.top))))
        (sym e)
        (subst (λ (n : ℕ). Fewer (holding s.live (suc s.top)) (holding (suc s.top ∷ s.live) n))
        (omega arith) (begins s.live (suc s.top))))

-- so the pages claim as much more as the plan does
pub written_claims :
    (limit : ℕ) (s : LogState) (t allowed more : ℕ) (plan : Plan) (after : Option Row)
    → IsConsistent limit s → MayBegin s t → DeskWrites limit s t plan.before after plan
    → claimed_all (holding s.live (suc s.top)) s.pages ≤ allowed
    → claimed_all (holding s.live (suc s.top)) (pages_after t (row_or_empty after) s.pages plan)
    ≤ claimed_all (holding s.live (suc s.top)) s.pages + more
    → claimed_all
    (holding (t ∷ s.live)
    (suc
    (step (step s (Purge plan.purge))
    (Change (write_of t plan.home plan.before after plan.parts))).top))
    (step (step s (Purge plan.purge))
    (Change (write_of t plan.home plan.before after plan.parts))).pages ≤ allowed + more
written_claims limit s t allowed more plan after good begin lawful most grows =
    let w : Write = write_of t plan.home plan.before after plan.parts in
    let later : LogState = step (step s (Purge plan.purge)) (Change w) in
    let fewer : claimed_all (holding (t ∷ s.live) (suc later.top)) later.pages
    ≤ claimed_all (holding s.live (suc s.top)) later.pages =
    claimed_all-fewer (holding s.live (suc s.top)) (holding (t ∷ s.live) (suc later.top))
    (holders_fewer limit s w good begin) later.pages in
    let same : claimed_all (holding s.live (suc s.top)) later.pages
    ≡ claimed_all (holding s.live (suc s.top)) (pages_after t (row_or_empty after) s.pages plan) =
    ap (claimed_all (holding s.live (suc s.top))) lawful.pages in
    omega (arith, fewer, same, grows, most)

-- all units of a write hold their areas
covers_with : (s : LogState) (t : ℕ) (units : List ℕ) → MayBegin s t
    → ((u : ℕ) → IsLive units u → IsLive (t ∷ s.live) u) → Covers (holding s.live (suc s.top)) units
covers_with s t units begin only u l = go (same_or_not u t)
  where
    known : IsLive s.live u → holding s.live (suc s.top) u ≡ true
    known m = covers s.live (suc s.top) u m

    or_right : {c : Bool} (b : Bool) → c ≡ true → (b || c) ≡ true
    or_right true e = refl
    or_right false e = e

    drawn : (n : ℕ) → n ≡ suc s.top → holding s.live (suc s.top) n ≡ true
    drawn n e = or_right (list_any (λ u. u == n) s.live) (le-leb (suc s.top) n (omega (arith, e)))

    mine : IsLive s.live t ⊎ (t ≡ suc s.top) → u ≡ t → holding s.live (suc s.top) u ≡ true
    mine (inl m) e = known (subst (IsLive s.live) (sym e) m)
    mine (inr n) e = drawn u (e ∙ n)

    go : (u ≡ t) ⊎ (u ≡ t → ⊥) → holding s.live (suc s.top) u ≡ true
    go (inl e) = mine begin.number e
    go (inr n) = known (live_other s.live t u n (only u l))

-- there is no new area only where the pages claim 3,221 bytes each
pub full_claims : (limit : ℕ) (s : LogState) (t b : ℕ) (units : List ℕ) → MayBegin s t
    → ((u : ℕ) → IsLive units u → IsLive (t ∷ s.live) u) → b ≤ 826 → length s.pages ≤ limit
    → new_area units b limit s.pages ≡ None
    → 3221 * limit ≤ claimed_all (holding s.live (suc s.top)) s.pages
full_claims limit s t b units begin only small few none = full_bound (holding s.live (suc s.top))
    units (covers_with s t units begin only) b limit s.pages small few none
