-- The answer to a statement, from what it answers and leaves without its claim.
use Rattle.std.proofs.Common.{◌≤◌, ◌≡◌, ◌+◌, ℕ, Bool, true, false, List, Option, Some, None, cond}
use Rattle.std.proofs.Common.{refl, sym, ◌∙◌, ap, subst, arith}
use Rattle.std.specs.FinMap as map
use Rattle.rg_base.specs.declared.options.DrainState.{DrainState}
use Rattle.rg_base.specs.declared.session.Class.{Class}
use Rattle.rg_base.specs.declared.session.Session.{Session}
use Rattle.rg_model.specs.Claims.{claim_classes, claims_with, classes_needed, is_drained}
use Rattle.rg_model.specs.Claims.{is_kept_out}
use Rattle.rg_model.specs.Plain.{after, after_answer, change_reply, insert_reply, is_done}
use Rattle.rg_model.specs.Plain.{plain_reply, row_reply, unless_held}
use Rattle.rg_model.specs.Held.{find_holder, holder, scan_holder}
use Rattle.rg_model.specs.Run.{Says}
use Rattle.rg_model.specs.Said.{if_allowed, state_refused}
use Rattle.rg_model.specs.State.{Claims, State, is_present, row_of}
use Rattle.rg_base.specs.declared.row.Row.{Row}
use Rattle.rg_stmt.specs.declared.stmt.Reply.{Reply}
use Rattle.rg_stmt.specs.declared.stmt.Reply.TheVariants.{Done, Found, Listed, Keyed, Absent}
use Rattle.rg_stmt.specs.declared.stmt.Reply.TheVariants.{Duplicate, Held, Victim, Drained, Full}
use Rattle.rg_stmt.specs.declared.stmt.Reply.TheVariants.{LogFull, Device, Down, NoMemory}
use Rattle.rg_stmt.specs.declared.stmt.Stmt.{Stmt}
use Rattle.rg_stmt.specs.declared.stmt.Stmt.TheVariants.{Insert, Update, Delete, Select, Scan, Find}
use Rattle.rg_stmt.specs.declared.stmt.Stmt.TheVariants.{Commit, Rollback}
use Rattle.rg_space.specs.Space.{capacity_in}
use Rattle.rg_engine.specs.Bytes.{taken_of}
use Rattle.rg_engine.specs.Answers.{Answered, Asks, IfFull, Replies, forces, is_answer, is_device}
use Rattle.rg_engine.specs.Answers.{is_served, needs_claim, state_left}
use Rattle.rg_engine.specs.Effect.{IfDoneEffect}
use Rattle.rg_engine.specs.Engine.{ground_of, seen_in, slots_in}
use Rattle.rg_engine.specs.Left.{LeavesState, in_doubt}
use Rattle.rg_engine.specs.Reopens.{IsCleanIn, PartsReopen}
use Rattle.rg_engine.specs.Shows.{IsShown, Shows}
use Rattle.rg_engine.specs.Steps.{Goes, IfDevice, IfUp, MayFail, Steps, MayReply, is_commit}
use Rattle.rg_engine.specs.Steps.{more_allowed, unclaimed}
use Rattle.rg_engine.specs.Stored.{Grows}
use Rattle.rg_base.specs.declared.set.Set.TheVariants.{Log}
use Rattle.rg_log.specs.Kept.{Listed as LogList, log_pages}
use Rattle.rg_outside.specs.Made.{WritesIn}
use Rattle.rg_outside.specs.Moments.{EachImage}
use Rattle.rg_outside.proofs.Frame.{no_calls}
use Rattle.rg_outside.proofs.Run.{begins}
use Rattle.rg_image.specs.Log.{SpellsFrom}
use Rattle.rg_engine.specs.Volume.{CallsLog, Leaves}
use Rattle.rg_outside.specs.Volume.{VolumeSeen}
use Rattle.rg_engine.specs.declared.units.OpenUnit.{OpenUnit}
use Rattle.rg_engine.specs.declared.engine.Engine.{Engine}
use Rattle.rg_engine.proofs.Moving.{moves_to, no_moves}
use Rattle.rg_engine.proofs.NewestKept.{space_newest}
use Rattle.rg_engine.proofs.Leaving.{leaves_grown, left_lower}
use Rattle.rg_engine.proofs.Settled.{grows_same}

-- the plain table's replies are answers

held_or : (stmt : Stmt) (held : Option Session) (reply : Reply) → is_served stmt reply ≡ true
    → is_served stmt (unless_held held reply) ≡ true
held_or stmt None reply e = e
held_or stmt (Some owner) reply e = refl

inserts : (stmt : Stmt) (there : Bool) → is_served stmt (insert_reply there) ≡ true
inserts stmt true = refl
inserts stmt false = refl

changes : (stmt : Stmt) (there : Bool) → is_served stmt (change_reply there) ≡ true
changes stmt true = refl
changes stmt false = refl

finds : (stmt : Stmt) (row : Option Row) → is_served stmt (row_reply row) ≡ true
finds stmt None = refl
finds stmt (Some row) = refl

plain_served : (st : State) (session : Session) (stmt : Stmt)
    → is_served stmt (plain_reply st session stmt) ≡ true
plain_served st session (Insert row) = held_or (Insert row) (holder st.locks session row.key) _
    (inserts (Insert row) (is_present st.table row.key))
plain_served st session (Update row) = held_or (Update row) (holder st.locks session row.key) _
    (changes (Update row) (is_present st.table row.key))
plain_served st session (Delete key) = held_or (Delete key) (holder st.locks session key) _
    (changes (Delete key) (is_present st.table key))
plain_served st session (Select key) =
    held_or (Select key) (holder st.locks session key) _ (finds (Select key) (row_of st.table key))
plain_served st session (Scan lo hi) =
    held_or (Scan lo hi) (scan_holder st.locks session lo hi) _ refl
plain_served st session (Find cat) =
    held_or (Find cat) (find_holder st.table st.locks session cat) _ refl
plain_served st session Commit = refl
plain_served st session Rollback = refl

served_is : (stmt : Stmt) (reply : Reply) → is_served stmt reply ≡ true
    → is_answer stmt reply ≡ true
served_is stmt Drained e = absurd (cc (e))
served_is stmt reply e = e

-- only what needs a claim is kept out
out_needs : (drain : DrainState) (claim : Option Class) (stmt : Stmt)
    → is_kept_out drain claim (classes_needed stmt) ≡ true → needs_claim stmt ≡ true
out_needs drain claim Commit out = absurd (cc (out))
out_needs drain claim Rollback out = absurd (cc (out))
out_needs drain claim stmt out = refl

-- the device refuses a COMMIT, and leaves it open whether it is in
fails : (st : State) (session : Session) (stmt : Stmt) → MayFail st session stmt
    → state_refused st session stmt (plain_reply st session stmt)
    ≡ Some (record st { down = true; doubt = Some session })
fails st session Commit e =
    ap (λ (b : Bool). if_allowed b (record st { down = true; doubt = Some session })) e
fails st session stmt e = absurd e

fails_commit : (st : State) (session : Session) (stmt : Stmt) → MayFail st session stmt
    → is_commit stmt ≡ true
fails_commit st session Commit e = refl
fails_commit st session stmt e = absurd e

-- what holds after a reply that leaves the engine up

up_of : (P : Type 0) (reply : Reply) → is_done reply ≡ true → IfUp reply P → P
up_of P Device e p = absurd (cc (e))
up_of P reply e p = p

pub up_if : (P : Type 0) (reply : Reply) → is_device reply ≡ false → IfUp reply P → P
up_if P Device e p = absurd (cc (e))
up_if P reply e p = p

if_up : (P : Type 0) (reply : Reply) → P → IfUp reply P
if_up P Device p = tt
if_up P reply p = p

left_done : (st : State) (session : Session) (stmt : Stmt) (reply : Reply) → is_done reply ≡ true
    → state_left st session stmt reply ≡ after_answer st session stmt reply
left_done st session stmt Device e = absurd (cc (e))
left_done st session stmt reply e = refl

left_refused : (st : State) (session : Session) (stmt : Stmt) (n : ℕ) (mid : Engine) (reply : Reply)
    → after_answer st session stmt reply ≡ unclaimed st session stmt reply
    → IfUp reply (Shows (unclaimed st session stmt reply) n mid)
    → IfUp reply (Shows (state_left st session stmt reply) n mid)
left_refused st session stmt n mid Device is p = tt
left_refused st session stmt n mid reply is p =
    subst (λ (after : State). Shows after n mid) (sym is) p

-- what holds after the reply of the device

pub down_if : (P : Type 0) (reply : Reply) → is_device reply ≡ true → IfDevice reply P → P
down_if P Device e p = p
down_if P reply e p = absurd (cc (e))

done_up : (P : Type 0) (reply : Reply) → is_done reply ≡ true → IfDevice reply P
done_up P Device e = absurd (cc (e))
done_up P reply e = tt

left_device : (st : State) (session : Session) (stmt : Stmt) (log : LogList) (reply : Reply)
    → IfDevice reply (LeavesState (in_doubt st session) log)
    → IfDevice reply (LeavesState (state_left st session stmt reply) log)
left_device st session stmt log Device p = p
left_device st session stmt log reply p = tt

-- what a reply is that stands for the plain table's
record IsSaid (st : State) (allowed capacity : ℕ) (session : Session) (stmt : Stmt) (reply : Reply)
    : Type 0 where
  says : Says st session stmt reply (state_left st session stmt reply)
  is : is_served stmt reply ≡ true
  full : IfFull reply allowed capacity

module _ (st : State) (allowed capacity : ℕ) (session : Session) (stmt : Stmt)
    (up : st.down ≡ false) (free : is_drained st session stmt ≡ false) where
  never : (reply : Reply) → is_served stmt reply ≡ false → reply ≡ plain_reply st session stmt → ⊥
  never reply none e = absurd (cc (none, ap (is_served stmt) e, plain_served st session stmt))

  said : (reply : Reply) → MayReply st allowed capacity session stmt reply
      → IsSaid st allowed capacity session stmt reply
  said Done e = record { says = (up, free, (e, refl)); is = refl; full = tt }
  said (Found row) e = record { says = (up, free, (e, refl)); is = refl; full = tt }
  said (Listed rows) e = record { says = (up, free, (e, refl)); is = refl; full = tt }
  said (Keyed keys) e = record { says = (up, free, (e, refl)); is = refl; full = tt }
  said Absent e = record { says = (up, free, (e, refl)); is = refl; full = tt }
  said Duplicate e = record { says = (up, free, (e, refl)); is = refl; full = tt }
  said (Held owner) e = record { says = (up, free, (e, refl)); is = refl; full = tt }
  said (Victim owner) e = absurd (never (Victim owner) refl e)
  said Drained e = absurd (never Drained refl e)
  said (Full need) e = record { says = (up, free, (e.0, e.1, refl)); is = e.0; full = e.2 }
  said (LogFull need left) e = record { says = (up, free, (e.0, e.1, refl)); is = e.0; full = tt }
  said Device e = record {
    says = (up, free, fails st session stmt e);
    is = fails_commit st session stmt e;
    full = tt;
  }
  said Down e = absurd (never Down refl e)
  said NoMemory e = record { says = (up, free, (e, refl)); is = e; full = tt }

-- the claim of a session stands until its unit ends, and the drain stands

by_done : (st : State) (session : Session) (stmt : Stmt) (done : Bool)
    → is_kept_out (cond done (after st session stmt) st).drain
    (map.get (cond done (after st session stmt) st).claims session.0) (classes_needed stmt)
    ≡ is_drained st session stmt
by_done st session stmt false = refl
by_done st session (Insert row) true = refl
by_done st session (Update row) true = refl
by_done st session (Delete key) true = refl
by_done st session (Select key) true = refl
by_done st session (Scan lo hi) true = refl
by_done st session (Find cat) true = refl
by_done st session Commit true = refl
by_done st session Rollback true = refl

module _ (st : State) (allowed : ℕ) (d : Engine) (shows : Shows st allowed d)
    (session : Session) where
  -- what keeps a session out, as the trace sees it
  out_is : (classes : List Class)
      → is_kept_out d.claims.drain (map.get d.claims.claims session.0) classes
      ≡ is_kept_out st.drain (map.get st.claims session.0) classes
  out_is classes =
      ap (λ (drain : DrainState). is_kept_out drain (map.get d.claims.claims session.0) classes)
      (sym shows.by.drain)
      ∙ ap (λ (claims : Claims). is_kept_out st.drain (map.get claims session.0) classes)
      (sym shows.by.claims)

  -- what is shown once the session has these classes
  pub registered_shows : (classes : List Class) (new : Engine)
      → new
      ≡
      record d { claims = record d.claims { claims = claims_with d.claims.claims session classes } }
      → Shows (claim_classes st session classes) allowed new
  registered_shows classes new is =
      subst (Shows (claim_classes st session classes) allowed) (sym is) (record {
        first = shows.first;
        begun = shows.begun;
        within = shows.within;
        stores = shows.stores;
        settled = shows.settled;
        runs = shows.runs;
        by = record {
          up = shows.by.up;
          sure = shows.by.sure;
          copy = shows.by.copy;
          table = shows.by.table;
          locks = shows.by.locks;
          claims = ap (λ (claims : Claims). claims_with claims session classes) shows.by.claims;
          drain = shows.by.drain;
          pages = record { step = shows.by.pages.step; agree = shows.by.pages.agree };
          slots = shows.by.slots;
          indexes = shows.by.indexes;
          keys = shows.by.keys;
          places = shows.by.places;
          units = shows.by.units;
          top = shows.by.top;
          owed = shows.by.owed;
          claimed = shows.by.claimed;
        };
        trails = shows.trails;
      })

-- its pages and units stay as they were
registered_clean : (d : Engine) (session : Session) (classes : List Class) (new : Engine)
    → new
    ≡ record d { claims = record d.claims { claims = claims_with d.claims.claims session classes } }
    → IsCleanIn d → IsCleanIn new
registered_clean d session classes new is clean =
    subst IsCleanIn (sym is) (record { names = clean.names; below = clean.below })

-- a drain covers a class that the statement needs
pub drained_answers : (st : State) (allowed : ℕ) (d : Engine) (shows : Shows st allowed d)
    (session : Session) (stmt : Stmt) (classes : List Class) → classes ≡ classes_needed stmt
    → is_kept_out d.claims.drain (map.get d.claims.claims session.0) classes ≡ true
    → Answered st allowed d session stmt Drained d
drained_answers st allowed d shows session stmt classes is out =
    let kept = ap (is_kept_out d.claims.drain (map.get d.claims.claims session.0)) (sym is) ∙ out in
    record {
      after = st;
      is_after = refl;
      says =
          (shows.by.up, sym (out_is st allowed d shows session (classes_needed stmt)) ∙ kept, refl);
      is = out_needs d.claims.drain (map.get d.claims.claims session.0) stmt kept;
      full = tt;
      room = tt;
      log = tt;
      logged = omega arith;
      opened = refl;
      set_aside = refl;
      grows = grows_same d.log d.log refl;
      newest = λ epoch h. h;
      parts = λ capacities epoch h. record { can = h.parts.can; low = h.parts.low };
      clean = λ clean. clean;
      shows = subst (λ (n : ℕ). Shows st n d) (omega arith) shows;
      left = tt;
      moves = no_moves d session stmt Drained refl;
      kept = λ is. record { ground = refl; contents = refl };
      capacity = refl;
      effect = tt;
    }

module _ (st : State) (allowed : ℕ) (d : Engine) (shows : Shows st allowed d) (session : Session)
    (stmt : Stmt) (reply : Reply) (mid : Engine) (goes : Goes st allowed d session stmt reply mid)
    (admitted : is_kept_out d.claims.drain (map.get d.claims.claims session.0) (classes_needed stmt)
    ≡ false) where
  not_drained : is_drained st session stmt ≡ false
  not_drained = sym (out_is st allowed d shows session (classes_needed stmt)) ∙ admitted

  pub still_admitted : (classes : List Class) → classes ≡ classes_needed stmt → is_done reply ≡ true
      → is_kept_out mid.claims.drain (map.get mid.claims.claims session.0) classes ≡ false
  still_admitted classes is done =
      ap (is_kept_out mid.claims.drain (map.get mid.claims.claims session.0)) is
      ∙ out_is (unclaimed st session stmt reply) (allowed + more_allowed stmt reply) mid
      (up_of _ reply done goes.shows) session (classes_needed stmt)
      ∙ by_done st session stmt (is_done reply)
      ∙ not_drained

  is_said : IsSaid st allowed (capacity_in d.space) session stmt reply
  is_said =
      said st allowed (capacity_in d.space) session stmt shows.by.up not_drained reply goes.says

  after_is : (done : Bool) → is_done reply ≡ done
      → after_answer st session stmt reply
      ≡ cond done (claim_classes (unclaimed st session stmt reply) session (classes_needed stmt))
      (unclaimed st session stmt reply)
  after_is done e = go (is_done reply) done e
    where
      go : (b done : Bool) → b ≡ done
          → cond b (claim_classes (after st session stmt) session (classes_needed stmt)) st
          ≡ cond done
          (claim_classes (cond b (after st session stmt) st) session (classes_needed stmt))
          (cond b (after st session stmt) st)
      go true true e = refl
      go false false e = refl
      go true false e = absurd (cc (e))
      go false true e = absurd (cc (e))

  -- a reply with number 0 registers the classes

  pub done_answers : (classes : List Class) (new : Engine) → classes ≡ classes_needed stmt
      → is_done reply ≡ true
      → new ≡ record mid {
        claims = record mid.claims { claims = claims_with mid.claims.claims session classes };
      }
      → Answered st allowed d session stmt reply new
  done_answers classes new is done e = record {
    after = state_left st session stmt reply;
    is_after = refl;
    says = is_said.says;
    is = served_is stmt reply is_said.is;
    full = is_said.full;
    room = goes.room;
    log = goes.log;
    logged = omega (arith, ap (λ (x : Engine). taken_of x.log) e, goes.logged);
    opened = ap (λ (x : Engine). x.opened) e ∙ goes.opened;
    set_aside = ap (λ (x : Engine). x.set_aside) e ∙ goes.set_aside;
    grows = subst (λ (l : LogList). Grows d.log l) (ap (λ (x : Engine). x.log) (sym e)) goes.grows;
    newest = λ epoch h. space_newest mid.log.records new.log.records mid.space new.space
        (ap (λ (x : Engine). x.log.records) e) (ap (λ (x : Engine). x.space) e) epoch
        (goes.newest epoch h);
    parts = λ capacities epoch h.
        subst (λ (l : LogList). PartsReopen capacities epoch (record l { forced = d.log.forced }))
        (ap (λ (x : Engine). x.log) (sym e)) (goes.parts capacities epoch h);
    clean = λ clean. if_up _ reply
        (registered_clean mid session classes new e (up_of _ reply done (goes.clean clean)));
    shows =
        if_up _ reply
        (subst (λ (after : State). Shows after (allowed + more_allowed stmt reply) new)
        (sym (left_done st session stmt reply done ∙ after_is true done)) (subst
        (λ (cs : List Class). Shows (claim_classes (unclaimed st session stmt reply) session cs)
        (allowed + more_allowed stmt reply) new) is
        (registered_shows (unclaimed st session stmt reply) (allowed + more_allowed stmt reply) mid
        (up_of _ reply done goes.shows) session classes new e)));
    left = done_up _ reply done;
    moves = if_up _ reply
        (moves_to d session stmt reply mid new (ap slots_in e) (ap (λ (x : Engine). x.log) e)
        (ap (λ (x : Engine). x.units) e) (up_of _ reply done goes.moves));
    kept = λ is. record {
      ground = ap ground_of e ∙ (goes.kept is).ground;
      contents = ap (λ (x : Engine). (seen_in x).pages) e ∙ (goes.kept is).contents;
    };
    capacity = ap (λ (x : Engine). capacity_in x.space) e ∙ goes.capacity;
    effect = subst (IfDoneEffect (ground_of d) session.0 stmt reply) (sym (ap ground_of e))
        goes.effect;
  }

  pub refused_answers : is_done reply ≡ false → Answered st allowed d session stmt reply mid
  refused_answers done = record {
    after = state_left st session stmt reply;
    is_after = refl;
    says = is_said.says;
    is = served_is stmt reply is_said.is;
    full = is_said.full;
    room = goes.room;
    log = goes.log;
    logged = goes.logged;
    opened = goes.opened;
    set_aside = goes.set_aside;
    grows = goes.grows;
    newest = goes.newest;
    parts = goes.parts;
    clean = goes.clean;
    shows = left_refused st session stmt (allowed + more_allowed stmt reply) mid reply
        (after_is false done) goes.shows;
    left = left_device st session stmt (record mid.log { forced = d.log.forced }) reply goes.left;
    moves = goes.moves;
    kept = goes.kept;
    capacity = goes.capacity;
    effect = goes.effect;
  }

-- a statement that is no COMMIT asks nothing of the volume

not_device : (st : State) (allowed : ℕ) (d : Engine) (session : Session) (stmt : Stmt)
    (reply : Reply) (new : Engine)
    → is_commit stmt ≡ false → Goes st allowed d session stmt reply new → reply ≡ Device → ⊥
not_device st allowed d session stmt reply new other goes is = by_stmt stmt other
    (subst (λ (r : Reply). MayReply st allowed (capacity_in d.space) session stmt r) is goes.says)
  where
    by_stmt : (stmt : Stmt) → is_commit stmt ≡ false
        → MayReply st allowed (capacity_in d.space) session stmt Device → ⊥
    by_stmt Commit other may = absurd (cc (other))
    by_stmt stmt other may = may

pub commit_is : (stmt : Stmt) → is_commit stmt ≡ true → stmt ≡ Commit
commit_is Commit e = refl
commit_is stmt e = absurd (cc (e))

no_force : (units : List (Option OpenUnit)) (session : Session) (stmt : Stmt)
    → is_commit stmt ≡ false → forces units session stmt ≡ false
no_force units session Commit other = absurd (cc (other))
no_force units session stmt other = refl

pub same_calls : (seen : VolumeSeen) → CallsLog seen seen
same_calls seen =
    record { only = no_calls (WritesIn Log) seen.told; later = omega arith; capacities = refl }

pub asks_nothing : (units : List (Option OpenUnit)) (session : Session) (stmt : Stmt)
    (reply : Reply) (old_log log : LogList) (seen : VolumeSeen) → forces units session stmt ≡ false
    → (reply ≡ Device → ⊥) → old_log.forced ≤ log.forced → (Leaves seen old_log → Leaves seen log)
    → Asks (forces units session stmt) reply old_log log seen seen
asks_nothing units session stmt reply old_log log seen none never further leaves = record {
  calls = same_calls seen;
  none = λ e. refl;
  device = λ e. absurd (never e);
  asked = λ e. absurd (never e);
  forced = λ force e. absurd (cc (force, none));
  further = further;
  one = λ force. absurd (cc (force, none));
  leaves = leaves;
  through = λ h. begins (EachImage (SpellsFrom log.pages log.records old_log.forced)) seen.told
      (left_lower seen.told log.pages log.records log.forced old_log.forced further (leaves h));
}

-- it forces nothing
pub drained_asks : (d : Engine) (session : Session) (stmt : Stmt) (seen : VolumeSeen)
    → needs_claim stmt ≡ true → Asks (forces d.units session stmt) Drained d.log d.log seen seen
drained_asks d session stmt seen needs = asks_nothing d.units session stmt Drained d.log d.log seen
    (no_force d.units session stmt (other stmt needs)) (λ e. absurd (cc (e))) (omega arith) (λ h. h)
  where
    other : (stmt : Stmt) → needs_claim stmt ≡ true → is_commit stmt ≡ false
    other Commit e = absurd (cc (e))
    other stmt e = refl

pub drained_needs : (d : Engine) (session : Session) (stmt : Stmt) (classes : List Class)
    → classes ≡ classes_needed stmt
    → is_kept_out d.claims.drain (map.get d.claims.claims session.0) classes ≡ true
    → needs_claim stmt ≡ true
drained_needs d session stmt classes is out =
    out_needs d.claims.drain (map.get d.claims.claims session.0) stmt
    (ap (is_kept_out d.claims.drain (map.get d.claims.claims session.0)) (sym is) ∙ out)

pub other_asks : (old : Engine) (shown : IsShown old) (session : Session) (stmt : Stmt)
    (reply : Reply) (new : Engine) (seen : VolumeSeen)
    → is_commit stmt ≡ false → Steps old session stmt reply new
    → Asks (forces old.units session stmt) reply old.log new.log seen seen
other_asks old shown session stmt reply new seen other steps =
    let goes = steps shown.state shown.allowed shown.shows in
    asks_nothing old.units session stmt reply old.log new.log seen
    (no_force old.units session stmt other)
    (not_device shown.state shown.allowed old session stmt reply new other goes)
    (omega (arith, goes.forced other))
    (leaves_grown seen old.log new.log goes.grows (goes.forced other))

-- an engine that is up shows some state, and after a reply it shows one unless it is down
pub replies_shown : (down : Bool) (old : Engine) (session : Session) (stmt : Stmt) (reply : Reply)
    (new : Engine) (after : Bool) (seen_old seen_new : VolumeSeen)
    → Replies down old session stmt reply new after seen_old seen_new → (down ≡ false → IsShown old)
    → after ≡ false → IsShown new
replies_shown true old session stmt reply new after seen_old seen_new replies shown up =
    absurd (cc (replies.2, up))
replies_shown false old session stmt reply new after seen_old seen_new replies shown up =
    let some = shown refl in
    let answered = replies.0 some.state some.allowed some.shows in
    record {
      state = answered.after;
      allowed = some.allowed + more_allowed stmt reply;
      shows = up_if _ reply (sym replies.2 ∙ up) answered.shows;
    }

-- the log keeps the pages of its set
pub replies_pages : (down : Bool) (old : Engine) (session : Session) (stmt : Stmt) (reply : Reply)
    (new : Engine) (after : Bool) (seen_old seen_new : VolumeSeen)
    → Replies down old session stmt reply new after seen_old seen_new → (down ≡ false → IsShown old)
    → old.log.pages ≡ log_pages seen_old.capacities → new.log.pages ≡ log_pages seen_new.capacities
replies_pages true old session stmt reply new after seen_old seen_new replies shown is =
    ap (λ (d : Engine). d.log.pages) replies.1 ∙ is
    ∙ ap (λ (v : VolumeSeen). log_pages v.capacities) (sym replies.3)
replies_pages false old session stmt reply new after seen_old seen_new replies shown is =
    let some = shown refl in (replies.0 some.state some.allowed some.shows).grows.pages ∙ is
    ∙ ap (λ c. log_pages c) (sym replies.1.calls.capacities)
