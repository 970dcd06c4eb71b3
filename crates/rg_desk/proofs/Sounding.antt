-- What a crash leaves at each moment of a desk's calls is sound.
use Rattle.std.proofs.Common.{◌≤◌, ℕ, Bool, true, false, List, length, Option, refl, sym, subst}
use Rattle.std.proofs.Common.{arith}
use Rattle.rg_laws_utility.specs.ByteAccount.Account.{allowed_of}
use Rattle.rg_base.specs.declared.position.Position.{Position}
use Rattle.rg_base.specs.declared.session.Session.{Session}
use Rattle.rg_base.specs.declared.set.Set.TheVariants.{Log}
use Rattle.rg_image.specs.Kept.{AreEntries}
use Rattle.rg_image.specs.Pack.{end_of, start}
use Rattle.rg_log.specs.Kept.{Listed}
use Rattle.rg_outside.specs.Capacities.{Capacities}
use Rattle.rg_outside.specs.Made.{WritesIn}
use Rattle.rg_outside.specs.Moments.{IfTold}
use Rattle.rg_stmt.specs.declared.event.Event.{Event}
use Rattle.rg_stmt.specs.declared.stmt.Reply.{Reply}
use Rattle.rg_stmt.specs.declared.stmt.Stmt.{Stmt}
use Rattle.rg_laws_crash.specs.PageVersions.Versions.{Epoch}
use Rattle.rg_engine.specs.Answers.{Replies}
use Rattle.rg_desk.specs.Chronicle.{ChronicleState}
use Rattle.rg_desk.specs.Desk.{IsDesk}
use Rattle.rg_engine.specs.Flushed.{TellsFlush}
use Rattle.rg_engine.specs.OnVolume.{IsOn, PartsIfTidy, SoundThroughout, WasAllTidy}
use Rattle.rg_engine.specs.Reopens.{IsCleanIn, PartsReopen}
use Rattle.rg_outside.specs.Volume.{VolumeSeen}
use Rattle.rg_engine.specs.declared.engine.Engine.{Engine}
use Rattle.rg_engine.specs.declared.origin.Origin.{Origin}
use Rattle.rg_desk.proofs.DeskGoes.{desk_reopens, desk_rests}
use Rattle.rg_engine.proofs.OnVolume.{both_tidy, on_more, tidy_then}
use Rattle.rg_engine.proofs.Throughout.{log_sound, sound_begins}

-- of a desk that makes no call
desk_sound : (d : Engine) (c : ChronicleState) (origin : Origin) (copy : ℕ) (down : Bool)
    (marks : List (Option Position)) (seen : VolumeSeen)
    (desk : IsDesk d c origin copy down marks seen) → AreEntries d.log.records
    → (1 ≤ length d.log.records → (end_of start d.log.records).page ≤ d.log.pages)
    → SoundThroughout seen seen
desk_sound d c origin copy down marks seen desk entries set =
    sound_begins seen (desk_rests d c origin copy down marks seen desk entries set).sound

-- of a statement
pub replied_sound : (d : Engine) (c : ChronicleState) (origin : Origin) (copy : ℕ) (down : Bool)
    (marks : List (Option Position)) (seen : VolumeSeen)
    (desk : IsDesk d c origin copy down marks seen) (session : Session) (stmt : Stmt)
    (reply : Reply) (next : Engine) (down_after : Bool) (seen_after : VolumeSeen)
    → Replies down d session stmt reply next down_after seen seen_after
    → AreEntries next.log.records
    → (1 ≤ length next.log.records → (end_of start next.log.records).page ≤ next.log.pages)
    → SoundThroughout seen seen_after
replied_sound d c origin copy true marks seen desk session stmt reply next down_after seen_after
    replies entries set =
    subst (SoundThroughout seen) (sym replies.3)
    (desk_sound d c origin copy true marks seen desk
    (subst (λ (x : Engine). AreEntries x.log.records) replies.1 entries)
    (subst
    (λ (x : Engine). 1 ≤ length x.log.records → (end_of start x.log.records).page ≤ x.log.pages)
    replies.1 set))
replied_sound d c origin copy false marks seen desk session stmt reply next down_after seen_after
    replies entries set =
    let answered = replies.0 desk.state (allowed_of desk.start c.trace) (desk.shown refl) in
    let asks = replies.1 in
    let e : Epoch = (desk.is_on refl).epoch in
    let on = (desk.is_on refl).is_on in
    let held : Listed = record next.log { forced = d.log.forced } in
    let parts : PartsIfTidy seen_after e held =
    subst
    (λ (caps : Capacities). IfTold seen_after.told
    (λ t. WasAllTidy caps t → PartsReopen caps e held)) (sym asks.calls.capacities)
    (tidy_then (WritesIn Log) seen.told seen_after.told seen.capacities seen.capacities
    (PartsReopen seen.capacities e d.log × IsCleanIn d) (PartsReopen seen.capacities e held) c.calls
    asks.calls.only desk.counted refl
    (λ h. answered.parts seen.capacities e (desk_reopens d c origin copy marks seen desk h.0 h.1))
    (both_tidy seen.told seen.capacities (λ t. PartsReopen seen.capacities e d.log)
    (λ t. IsCleanIn d) on.parts (desk.clean refl))) in
    let after : IsOn e copy held next.space marks seen_after =
    on_more e copy d.log held d.space next.space marks seen seen_after on answered.grows.more
    answered.grows.records (answered.newest e on.newest) answered.capacity
    (desk.shown refl).settled.within (omega arith) asks.calls c.calls desk.counted parts in
    log_sound e copy d.log next.log d.space next.space marks marks seen seen_after on after
    answered.grows.more answered.grows.records answered.capacity (desk.shown refl).settled.within
    asks.calls c.calls desk.counted
    desk.pages answered.grows.pages entries set desk.leaves asks.through

-- of a flush
pub flushed_sound : (d : Engine) (c : ChronicleState) (origin : Origin) (copy : ℕ) (down : Bool)
    (marks later : List (Option Position)) (seen seen_after : VolumeSeen)
    (desk : IsDesk d c origin copy down marks seen) (event : Event) (next : Engine)
    → TellsFlush down copy marks later seen seen_after d event next → AreEntries d.log.records
    → (1 ≤ length d.log.records → (end_of start d.log.records).page ≤ d.log.pages)
    → SoundThroughout seen seen_after
flushed_sound d c origin copy true marks later seen seen_after desk event next tells entries set =
    subst (SoundThroughout seen) (sym tells.3)
    (desk_sound d c origin copy true marks seen desk entries set)
flushed_sound d c origin copy false marks later seen seen_after desk event next f entries set =
    f.sound (record { entries = entries; set = set; pages = desk.pages }) desk.leaves
