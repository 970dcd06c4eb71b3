use Rattle.std.proofs.Common.{◌≡◌, ◌+◌, ℕ, [], ◌∷◌, ◌++◌, length, refl, sym, ◌∙◌, ap, subst}
use Rattle.std.proofs.Common.{arith}
use Rattle.rg_base.specs.Copies.{IsCopy}
use Rattle.rg_log.specs.Kept.{Listed}
use Rattle.rg_laws_crash.specs.SwitchRecord.Switched.{switch_to}
use Rattle.rg_engine.specs.Bytes.{taken_of}
use Rattle.rg_engine.specs.Stored.{Grows}
use Rattle.rg_engine.proofs.Forcing.{leaves_forced, through_forced}
use Rattle.rg_engine.proofs.Spelled.{switch_bytes}
use Rattle.rg_engine.proofs.engine.Engine.log_switch.Goals as goal

pub append-requires-clause-spelled : goal.append-requires-clause-spelled
append-requires-clause-spelled g c =
    (subst IsCopy (sym c.number.ensures.is) c.requires.copy, (refl, refl))

pub append-requires-clause-room : goal.append-requires-clause-room
append-requires-clause-room g c =
    omega (arith, switch_bytes c.number.result c.args.pages, c.requires.room)

pub returns-clause-logs : goal.returns-clause-logs
returns-clause-logs g c =
    let d = c.args.self.now in
    let mid = c.append.new.log in
    let log = c.force-forced.new.self in
    let look = g.V.Volume.seen in
    let before = look c.args.volume.now in
    let now = look c.force-forced.new.volume in
    let force = c.force-forced.ensures in
    let appended : mid.records
    ≡ d.log.records ++ switch_to (length d.log.records + 1) c.args.copy c.args.pages ∷ [] =
    c.append.ensures.records
    ∙ ap (λ (copy : ℕ). d.log.records
    ++ switch_to c.next_position.result.0 copy c.args.pages ∷ []) c.number.ensures.is
    ∙ ap (λ (n : ℕ). d.log.records ++ switch_to n c.args.copy c.args.pages ∷ [])
    c.next_position.ensures in
    let grows : Grows d.log mid = record {
      more = switch_to (length d.log.records + 1) c.args.copy c.args.pages ∷ [];
      records = appended;
      pages = c.append.ensures.pages;
    } in
    record {
      same = refl;
      records = ap (λ (l : Listed). l.records) force.kept ∙ appended;
      reserved = omega (
        arith,
        ap (λ (l : Listed). l.reserved) force.kept,
        c.append.ensures.reserved,
        switch_bytes c.number.result c.args.pages,
      );
      taken = ap (λ (l : Listed). taken_of l) force.kept ∙ c.append.ensures.taken;
      pages_same = ap (λ (l : Listed). l.pages) force.kept ∙ c.append.ensures.pages;
      further = omega (arith, force.further, c.append.ensures.forced);
      entries = c.records.ensures.entries;
      set = c.records.ensures.set;
      calls =
          record { only = force.only; later = force.cause.later; capacities = force.capacities };
      leaves = leaves_forced before now d.log mid log grows c.append.ensures.forced force.kept
          force.ahead force.moments;
      through = through_forced before now d.log mid log grows c.append.ensures.forced force.kept
          force.ahead force.moments;
    }
