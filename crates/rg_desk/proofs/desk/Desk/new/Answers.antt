use Rattle.std.proofs.Common.{ℕ, List, [], ◌∷◌, Option, None, length, refl, sym, ◌∙◌, ap, subst}
use Rattle.std.proofs.Common.{arith}
use Rattle.rg_base.specs.declared.position.Position.{Position}
use Rattle.rg_image.specs.Pack.{log_bytes}
use Rattle.rg_home.specs.Pages.{slot_of}
use Rattle.rg_home.specs.Owners.{AllBelow}
use Rattle.rg_log.specs.Kept.{Listed}
use Rattle.rg_outside.proofs.Every.{told_weaken}
use Rattle.rg_record.specs.declared.record.Record.{Record}
use Rattle.rg_space.specs.Space.{capacity_in, frames_of}
use Rattle.rg_engine.specs.Bytes.{taken_of}
use Rattle.rg_space.specs.Memory.{list_seen, space_pages}
use Rattle.rg_engine.specs.Engine.{slots_in}
use Rattle.rg_engine.specs.OnVolume.{IsOnVolume, WasAllTidy}
use Rattle.rg_engine.specs.Reopens.{IsCleanIn}
use Rattle.rg_engine.specs.Units.{trans_of}
use Rattle.rg_engine.specs.Stored.{IsStored}
use Rattle.rg_engine.specs.Volume.{LeavesIfTidy}
use Rattle.rg_desk.proofs.DeskGoes.{desk_opened}
use Rattle.rg_engine.proofs.Members.{trans_only}
use Rattle.rg_engine.proofs.Reopens.{idle_names}
use Rattle.rg_model.specs.State.{row_count}
use Rattle.rg_stmt.specs.Entries.{opened_entry}
use Rattle.rg_stmt.specs.declared.event.Entry.{Entry}
use Rattle.rg_rules.specs.Tally.Changed.{ChangeCount, no_changes}
use Rattle.rg_laws_utility.specs.TraceStage.Tending.{Tends}
use Rattle.rg_laws_utility.proofs.TraceStageLemmas.Tended.{tends_opened}
use Rattle.rg_feed.specs.Ends.{sent_items}
use Rattle.rg_desk.proofs.Feeding.{opened_items}
use Rattle.rg_desk.proofs.desk.Desk.new.Goals as goal

pub invariant_of-desk : goal.invariant_of-desk
invariant_of-desk g c =
    let b = c.in-Ok.ensures.begun in
    let found = c.args.found in
    let seen =
    g.V.Volume.seen c.args.volume in (
      desk_opened c.in-Ok.engine c.begin.new.chronicle _ found.copy
          (length (space_pages found.space)) (log_bytes found.log.records) c.calls_now-now.result
          c.in-Ok.marks.items seen b.start c.requires.copy b.shows
          (subst (λ (rs : List Record). IsStored rs b.start)
          (ap (λ (l : Listed). l.records) (sym b.log)) b.starts)
          (ap length c.records.ensures.records ∙ ap (λ (l : Listed). length l.records) (sym b.log))
          (omega (arith, ap (λ (l : Listed). taken_of l) b.log, c.requires.begins.idle))
          (ap (λ (l : Listed). l.pages) b.log ∙ c.requires.pages)
          (subst (LeavesIfTidy seen) (sym b.log) c.requires.leaves) (subst
          (λ (ms : List (Option Position)). IsOnVolume found.copy c.in-Ok.engine.log
          c.in-Ok.engine.space ms seen) (ap (λ v. v.items) (sym c.in-Ok.ensures.marks))
          (subst (λ sp. IsOnVolume found.copy c.in-Ok.engine.log sp found.marks.items seen)
          (sym b.space)
          (subst (λ (l : Listed). IsOnVolume found.copy l found.space found.marks.items seen)
          (sym b.log) c.requires.is_on))) (told_weaken
          (λ t. WasAllTidy seen.capacities t
          → AllBelow found.top (slot_of (space_pages found.space)))
          (λ t. WasAllTidy seen.capacities t → IsCleanIn c.in-Ok.engine) seen.told
          (λ t h tidy. record {
            names = idle_names (trans_of c.in-Ok.engine.units) (slot_of (slots_in c.in-Ok.engine))
                (λ u l. let has = trans_only c.in-Ok.engine.units u l in
                absurd (cc (has.has, b.idle has.session)));
            below =
                subst (λ (top : ℕ). AllBelow top (slot_of (slots_in c.in-Ok.engine))) (sym b.top)
                (subst (λ sp. AllBelow found.top (slot_of (space_pages sp))) (sym b.space)
                (h tidy));
          }) c.requires.below)
          b.few b.trace b.at c.calls_now-now.ensures.counted b.recorded,
      subst (λ (es : List Entry). Tends es None c.in-Ok.changes c.in-Ok.engine.set_aside)
          (sym b.trace) (subst
          (λ (count : ChangeCount). Tends
          (opened_entry found.copy (row_count b.start) (length (space_pages found.space))
          (log_bytes found.log.records) c.calls_now-now.result ∷ []) None count
          c.in-Ok.engine.set_aside) (sym c.in-Ok.ensures.changes) (subst
          (λ (n : ℕ). Tends
          (opened_entry found.copy (row_count b.start) (length (space_pages found.space))
          (log_bytes found.log.records) c.calls_now-now.result ∷ []) None no_changes n)
          (sym b.set_aside)
          (tends_opened found.copy (row_count b.start) (length (space_pages found.space))
          (log_bytes found.log.records) c.calls_now-now.result))),
      tt,
      opened_items found c.calls_now-now.result c.in-Ok.engine c.begin.new.chronicle
          (record { records = _; copy = found.copy }) c.in-Ok.changes (sent_items c.in-Ok.outlet) b
          c.in-Ok.ensures.changes c.in-Ok.ensures.sent,
      tt,
    )

pub returns-in-Ok-clause-opens : goal.returns-in-Ok-clause-opens
returns-in-Ok-clause-opens g c =
    let b = c.in-Ok.ensures.begun in
    record {
      calls = c.calls_now-now.result;
      start = b.start;
      starts = b.starts;
      trace = b.trace;
      counted = c.calls_now-now.ensures.counted;
      pages_are = ap (λ sp. space_pages sp) b.space;
      capacity_is = ap (λ sp. capacity_in sp) b.space;
      log_is = b.log;
      opened = ap length c.records.ensures.records;
      first_copy = refl;
      copy_is = refl;
      up = refl;
      same = refl;
      asked = refl;
      stage = refl;
      changes = ap (λ (count : ChangeCount). count.since) c.in-Ok.ensures.changes;
      kept = refl;
      shadow = refl;
      feed = c.in-Ok.ensures.sent;
      idle = b.idle;
    }

pub returns-in-Ok-clause-contents : goal.returns-in-Ok-clause-contents
returns-in-Ok-clause-contents g c =
    ap (λ sp. (list_seen (frames_of sp)).pages) c.in-Ok.ensures.begun.space
