-- What is made stays made where the numbers that it goes by are the same.
use Rattle.std.proofs.Common.{◌≡◌, ◌≤◌, ℕ, List, Bool, true, false, Option, Some, None, refl}
use Rattle.std.proofs.Common.{sym, ◌∙◌, ap, subst, arith, length}
use Rattle.rg_base.specs.declared.control.Command.{Command}
use Rattle.rg_base.specs.declared.options.DrainState.{DrainState}
use Rattle.rg_base.specs.declared.options.Options.{Options}
use Rattle.rg_base.specs.declared.which.Which.{Which}
use Rattle.rg_engine.specs.Prepared.{PreparedSeen}
use Rattle.rg_feed.specs.Ends.{Received}
use Rattle.rg_feed.specs.declared.fold.item.Item.{Item}
use Rattle.rg_laws_utility.specs.TraceStage.Tending.{IsForAll}
use Rattle.rg_model.specs.State.{Utility}
use Rattle.rg_model.specs.Turn.{alter}
use Rattle.rg_reload.specs.Reloading.{Reloading}
use Rattle.rg_shadow.specs.Shade.{Shade, stage_in}
use Rattle.rg_phase.specs.Made.{Drafts, HasMade, IsUnfilled, Keeps, KeepsOf, Packs, PacksAlike}
use Rattle.rg_phase.specs.Made.{StepMakes, stage_by}
use Rattle.rg_phase.specs.declared.made.Made.{Made}
use Rattle.rg_phase.specs.declared.made.Made.TheVariants.{Nothing, Packing, Drafted, Written}
use Rattle.rg_phase.proofs.Due.{Altered, altered}

-- what was made under the first drain, by the first numbers, is made by the others as well
pub record SameMaking (u : Utility) (d : DrainState) (v : Utility) (e : DrainState) : Type 0 where
  pub pages : v.pages ≡ u.pages
  pub copied : v.copied ≡ u.copied
  pub unloaded : v.unloaded ≡ u.unloaded
  pub reloaded : v.reloaded ≡ u.reloaded
  pub filled : v.filled ≡ u.filled
  pub sorted : v.sorted ≡ u.sorted
  pub built : v.built ≡ u.built
  pub done : v.done ≡ u.done
  pub written : v.written ≡ u.written
  pub switched : v.switched ≡ u.switched
  pub alike : PacksAlike u.options v.options
  pub kept :
      u.last ≡ true → IsForAll d → (v.last ≡ true) × (v.shadow ≡ u.shadow) × IsForAll e

pub alike_both : (a b c : Options) → PacksAlike a b → PacksAlike b c → PacksAlike a c
alike_both a b c first next = record {
  pctfree = first.pctfree ∙ next.pctfree;
  freepage = first.freepage ∙ next.freepage;
}

module _ (u : Utility) (d : DrainState) (v : Utility) (e : DrainState) (same : SameMaking u d v e)
  where
    unfilled_moved : IsUnfilled u → IsUnfilled v
    unfilled_moved h = record {
      filled = same.filled ∙ h.filled;
      reloaded = same.reloaded ∙ h.reloaded;
      sorted = same.sorted ∙ h.sorted;
      built = same.built ∙ h.built;
      done = same.done ∙ h.done;
      unwritten = same.written ∙ h.unwritten;
    }

    packs_moved : (copy capacity : ℕ) (p : Reloading) → Packs u copy capacity p
        → Packs v copy capacity p
    packs_moved copy capacity p h = record {
      copied = omega (arith, h.copied, same.pages, same.copied);
      sorted = same.sorted ∙ h.sorted;
      built = same.built ∙ h.built;
      done = same.done ∙ h.done;
      unwritten = same.written ∙ h.unwritten;
      filled = h.filled ∙ sym same.filled;
      placed = h.placed ∙ sym same.reloaded;
      unspent = h.unspent;
      copy_is = h.copy_is;
      capacity_is = h.capacity_is;
      alike = alike_both p.options u.options v.options h.alike same.alike;
    }

    drafts_moved : (copy capacity : ℕ) (options : Options) (s : Shade)
        → Drafts u copy capacity options s → Drafts v copy capacity options s
    drafts_moved copy capacity options s h = record {
      copied = omega (arith, h.copied, same.pages, same.copied);
      reloaded = omega (arith, h.reloaded, same.unloaded, same.reloaded);
      first = omega (arith, h.first, same.sorted, same.built);
      stages = λ which.
          h.stages which ∙ ap (λ (n : ℕ). stage_by n u.built which) (sym same.sorted)
          ∙ ap (λ (n : ℕ). stage_by v.sorted n which) (sym same.built);
      unwritten = same.written ∙ h.unwritten;
      copy_is = h.copy_is;
      capacity_is = h.capacity_is;
      alike = alike_both options u.options v.options h.alike same.alike;
    }

    keeps_moved : (options : Options) (p : PreparedSeen) → Keeps u d options p → Keeps v e options p
    keeps_moved options p h =
        let kept = same.kept h.last h.for_all in
        record {
          copied = omega (arith, h.copied, same.pages, same.copied);
          reloaded = omega (arith, h.reloaded, same.unloaded, same.reloaded);
          sorted = omega (arith, h.sorted, same.sorted);
          built = omega (arith, h.built, same.built);
          first = omega (arith, h.first, same.sorted, same.built);
          last = kept.0;
          written = same.written ∙ h.written;
          for_all = kept.2;
          pages = h.pages ∙ sym kept.1;
          alike = alike_both options u.options v.options h.alike same.alike;
        }

    kept_moved : (options : Options) (kept : Option PreparedSeen) (items : List Item) (taken : ℕ)
        → KeepsOf u d options kept items taken → KeepsOf v e options kept items taken
    kept_moved options None items taken h = absurd h
    kept_moved options (Some p) items taken h = (keeps_moved options p h.0, h.1)

    pub made_moved : (copy capacity : ℕ) (made : Made) (kept : Option PreparedSeen)
        (inlet : Received) → HasMade u d copy capacity made kept inlet
        → HasMade v e copy capacity made kept inlet
    made_moved copy capacity Nothing kept inlet h = (h.0, unfilled_moved h.1)
    made_moved copy capacity (Packing p) kept inlet h = (
      h.0,
      omega (arith, h.1, same.filled),
      packs_moved copy capacity p.packer h.2,
      h.3,
    )
    made_moved copy capacity (Drafted x) kept inlet h = (
      h.0,
      omega (arith, h.1, same.sorted),
      drafts_moved copy capacity x.options x.shadow h.2,
      h.3,
    )
    made_moved copy capacity (Written options) kept inlet h =
        kept_moved options kept inlet.items inlet.taken h

    pub step_moved : (copy capacity : ℕ) (made : Made) (kept : Option PreparedSeen)
        (inlet : Received) → StepMakes u d copy capacity made kept inlet
        → StepMakes v e copy capacity made kept inlet
    step_moved copy capacity made kept inlet h = record {
      unswitched = same.switched ∙ h.unswitched;
      copied = omega (arith, h.copied, same.pages, same.copied);
      made_is = made_moved copy capacity made kept inlet h.made_is;
      taken = h.taken ∙ sym same.done;
    }

-- ---- ALTER, and the way back

pub same_options : (u : Utility) (d : DrainState) (options : Options) → PacksAlike u.options options
    → SameMaking u d (record u { options = options }) d
same_options u d options alike = record {
  pages = refl;
  copied = refl;
  unloaded = refl;
  reloaded = refl;
  filled = refl;
  sorted = refl;
  built = refl;
  done = refl;
  written = refl;
  switched = refl;
  alike = alike;
  kept = λ last all. (last, refl, all);
}

pub same_altered : (u : Utility) (d : DrainState) (command : Command)
    → SameMaking u d (alter u command) d
same_altered u d command =
    let is = altered u command in
    subst (λ (v : Utility). SameMaking u d v d) (sym is.same) (same_options u d is.options is.alike)

-- the desk keeps no new copy where none of this kind can be
pub none_kept : (u : Utility) (d : DrainState) (copy capacity : ℕ) (made : Made)
    (kept : Option PreparedSeen) (inlet : Received)
    → ((options : Options) (p : PreparedSeen) → Keeps u d options p → ⊥)
    → HasMade u d copy capacity made kept inlet → kept ≡ None
none_kept u d copy capacity Nothing kept inlet never h = h.0
none_kept u d copy capacity (Packing p) kept inlet never h = h.0
none_kept u d copy capacity (Drafted x) kept inlet never h = h.0
none_kept u d copy capacity (Written options) None inlet never h = absurd h
none_kept u d copy capacity (Written options) (Some p) inlet never h =
    absurd (never options p h.0)
