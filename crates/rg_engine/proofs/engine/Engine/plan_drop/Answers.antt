use Rattle.std.proofs.Common.{◌≡◌, true, List, refl, sym, ◌∙◌, ap, subst}
use Rattle.rg_home.specs.Pages.{slot_of}
use Rattle.rg_home.specs.Plan.{is_home}
use Rattle.rg_home.specs.Rows.{Tied}
use Rattle.rg_home.specs.Slot.{Slot}
use Rattle.rg_page.specs.Content.{slots_of}
use Rattle.rg_space.specs.Space.{capacity_in, frames_of}
use Rattle.rg_space.specs.Memory.{list_seen}
use Rattle.rg_engine.proofs.DropHand.{drop_hand}
use Rattle.rg_engine.proofs.PlannedIn.{agree_later}
use Rattle.rg_engine.proofs.Sessions.{left_consistent}
use Rattle.rg_engine.proofs.engine.Engine.plan_drop.Goals as goal

pub returns-in-Ok-clause-handed : goal.returns-in-Ok-clause-handed
returns-in-Ok-clause-handed c =
    let d = c.args.self.now in
    let sp = c.plan_drop.new.self in
    let shown = c.requires.shown in
    let same : slots_of (list_seen (frames_of sp)).pages
    ≡ slots_of (list_seen (frames_of d.space)).pages =
    ap slots_of (c.plan_drop.ensures.took.reads.same refl) in
    let summaries = c.plan_drop.ensures.summaries in
    let agree = agree_later d.space sp c.plan_drop.ensures.took.reads (ap (λ x. x.pages) summaries)
    shown.shows.by.pages.agree in
    let tied : Tied (slot_of (slots_of (list_seen (frames_of sp)).pages)) =
    subst (λ (ps : List (List Slot)). Tied (slot_of ps)) (sym (same ∙ shown.shows.by.slots))
    (left_consistent shown.state shown.allowed d shown.shows).ready.proper.tied in
    record {
      pages = record { step = c.plan_drop.ensures.step; agree = agree };
      hand = drop_hand (list_seen (frames_of sp)) (capacity_in sp) c.args.home c.in-Ok.plan tied
          (subst (λ (ps : List (List Slot)). is_home (slot_of ps c.args.home) ≡ true) (sym same)
          c.requires.home)
          (c.in-Ok.ensures.plan agree) c.in-Ok.ensures.none c.in-Ok.ensures.held;
    }
