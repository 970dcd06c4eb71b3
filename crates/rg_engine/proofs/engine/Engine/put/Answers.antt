use Rattle.std.proofs.Common.{◌≡◌, ◌+◌, ℕ, List, ◌∷◌, ◌++◌, [], Some, length, refl, sym, ◌∙◌, ap}
use Rattle.std.proofs.Common.{subst, set, arith}
use Rattle.rg_base.specs.declared.position.Position.{Position}
use Rattle.rg_home.specs.Pages.{applied, row_or_empty}
use Rattle.rg_home.specs.Slot.{Slot}
use Rattle.rg_index.specs.Listed.{SetsRow}
use Rattle.rg_page.specs.Content.{slots_of}
use Rattle.rg_record.specs.declared.record.Record.{Record}
use Rattle.rg_record.specs.declared.record.Kind.TheVariants.{Change}
use Rattle.rg_space.specs.Carries.{AllThere, cleared}
use Rattle.rg_space.specs.Ready.{CanApply}
use Rattle.rg_space.specs.Space.{capacity_in, frames_of}
use Rattle.rg_space.proofs.Carried.{purge_applies, parts_apply}
use Rattle.rg_space.proofs.Whole.{slots_count}
use Rattle.rg_engine.specs.Engine.{seen_in, slots_in}
use Rattle.rg_space.specs.Memory.{list_seen}
use Rattle.rg_engine.specs.Wrote.{records_cleared}
use Rattle.rg_engine.specs.declared.units.OpenUnit.{OpenUnit}
use Rattle.rg_engine.proofs.engine.Engine.put.Goals as goal

pub returns : goal.returns
returns c =
    let plan = c.args.plan in
    let old = c.args.self.now in
    let unit = c.args.unit in
    let k = capacity_in old.space in
    let base = records_cleared old.log.records plan.purge in
    let at : c.next_position-position.result.0 ≡ length base + 1 = c.next_position-position.ensures
    ∙ ap (λ (rs : List Record). length rs + 1) c.clear.ensures.records in
    let change : Position → Record = λ p. record {
      position = p;
      tran = unit.tran;
      back = unit.last;
      kind = Change plan.home plan.before c.args.after plan.parts;
    } in
    record {
      capacity = c.make.ensures.capacity ∙ c.clear.ensures.capacity;
      pages = λ h. record {
        step = c.make.ensures.step;
        agree = c.make.ensures.agree (c.clear.ensures.agree h.agree);
      };
      slots = λ carries.
          let purge = purge_applies (seen_in old) unit.tran.0 0 k c.args.after plan
          c.requires.hand.purge carries in
          let is : slots_of (list_seen (frames_of c.clear.new.space)).pages
          ≡ cleared 0 (slots_in old) plan = c.clear.ensures.slots purge in
          let there = subst (λ (n : ℕ). AllThere n plan.purge) (slots_count (seen_in old).pages)
          carries.next.purge in
          let ready = c.clear.ensures.stay purge there plan.parts c.requires.hand.parts in
          let can = parts_apply (seen_in old) (list_seen (frames_of c.clear.new.space)) unit.tran.0
          0 k c.args.after plan ready carries is in
          c.make.ensures.slots
          (subst
          (λ (n : ℕ). CanApply (list_seen (frames_of c.clear.new.space)) n unit.tran.0 c.args.after
          plan.parts) (sym c.clear.ensures.capacity) can)
          ∙ ap
          (λ (ps : List (List Slot)). applied unit.tran.0 (row_or_empty c.args.after) ps plan.parts)
          is;
      newest = λ carries e h.
          let purge = purge_applies (seen_in old) unit.tran.0 0 k c.args.after plan
          c.requires.hand.purge carries in
          let is : slots_of (list_seen (frames_of c.clear.new.space)).pages
          ≡ cleared 0 (slots_in old) plan = c.clear.ensures.slots purge in
          let there = subst (λ (n : ℕ). AllThere n plan.purge) (slots_count (seen_in old).pages)
          carries.next.purge in
          let ready = c.clear.ensures.stay purge there plan.parts c.requires.hand.parts in
          let can = parts_apply (seen_in old) (list_seen (frames_of c.clear.new.space)) unit.tran.0
          0 k c.args.after plan ready carries is in
          c.make.ensures.newest
          (subst
          (λ (n : ℕ). CanApply (list_seen (frames_of c.clear.new.space)) n unit.tran.0 c.args.after
          plan.parts) (sym c.clear.ensures.capacity) can) refl e
          (c.clear.ensures.newest purge e h);
      records =
          c.make.ensures.records
          ∙ ap (λ (rs : List Record). rs ++ change c.next_position-position.result ∷ [])
          c.clear.ensures.records
          ∙ ap (λ (n : ℕ). base ++ change (record { 0 = n }) ∷ []) at;
      reserved = omega (arith, c.make.ensures.reserved, c.clear.ensures.reserved);
      base = record {
        opened = refl;
        set_aside = refl;
        forced = c.make.ensures.forced ∙ c.clear.ensures.forced;
        pages = c.make.ensures.pages ∙ c.clear.ensures.pages;
      };
      indexes = λ rows next are here sets. c.replace.ensures.listings rows next are
          (here ∙ sym c.as_ref.ensures.value)
          (subst (SetsRow rows next plan.home) (sym c.as_ref-2.ensures.value) sets);
      locks = refl;
      claims = refl;
      units =
          c.set.ensures
          ∙ ap
          (λ (n : ℕ). let next : OpenUnit =
          record { tran = unit.tran; last = record { 0 = n }; writes = unit.writes + 1 } in
          set old.units c.args.session.0 (Some next)) at;
      top = c.greater-self.ensures;
    }
