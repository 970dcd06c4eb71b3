-- What is kept goes on with each entry.
use Rattle.std.proofs.Common.{◌≡◌, ◌≤◌, ◌<◌, ℕ, ◌+◌, ◌==◌, ◌&&◌, ◌||◌, nat_le, Bool, true, false}
use Rattle.std.proofs.Common.{cond, not, List, [], ◌∷◌, Option, Some, None, refl, sym, subst, ◌∙◌}
use Rattle.std.proofs.Common.{ap, arith}
use Rattle.std.specs.FinMap as map
use Rattle.std.specs.FinMap.{get-empty, get-insert, get-remove}
use Rattle.std.specs.Option.{unwrap_or}
use Rattle.std.specs.Ordering.{nat_cmp, eq_by_cmp}
use Rattle.std.proofs.lemmas.Cmp.{nat_cmp_total}
use Rattle.std.proofs.lemmas.Bool.Decides.{nat_tests}
use Rattle.std.proofs.Math.Bool.{and-true, and-false, or-true}
use Rattle.std.proofs.lemmas.Bool.{le-leb, lt-leb, eqb-true}
use Rattle.rg_base.specs.declared.control.Answer.{Answer}
use Rattle.rg_base.specs.declared.session.Session.{Session}
use Rattle.rg_base.proofs.Small.{nat_itself, cmp_turned, cmp_one}
use Rattle.rg_stmt.specs.declared.event.Actor.{Actor}
use Rattle.rg_stmt.specs.declared.event.Actor.TheVariants as actors
use Rattle.rg_stmt.specs.declared.event.Entry.{Entry}
use Rattle.rg_stmt.specs.declared.event.Event.{Event}
use Rattle.rg_stmt.specs.declared.event.Event.TheVariants as events
use Rattle.rg_stmt.specs.declared.stmt.Reply.{Reply}
use Rattle.rg_stmt.specs.declared.stmt.Reply.TheVariants as replies
use Rattle.rg_stmt.specs.declared.stmt.Stmt.{Stmt}
use Rattle.rg_stmt.specs.declared.stmt.Stmt.TheVariants as stmts
use Rattle.rg_model.specs.Changes.{is_write, is_rollback, is_unit_end, unit_writes, changes}
use Rattle.rg_model.specs.Quiet.{is_among, is_locked_in, is_quiet, names_key, is_write_of}
use Rattle.rg_rules.specs.Tally.Tallied.{IsNumbered, IsTallied, is_kept, is_open, is_stirred}
use Rattle.rg_rules.specs.Tally.Tallied.{is_unit, key_written, tally_after, tally_said, tally_write}
use Rattle.rg_rules.specs.Tally.Tallied.{tally_end, tally_quiet, tally_rollback, unit_of}
use Rattle.rg_rules.specs.Tally.Tallied.{unit_written, writes_of}
use Rattle.rg_rules.specs.declared.tally.tally.Tally.{Tally}
use Rattle.rg_rules.specs.declared.tally.tally.Writer.{Writer}

pub tallied-none : (tally : Tally) → tally.changes ≡ 0 → tally.count ≡ 0 → tally.writes ≡ map.empty
    → tally.units ≡ map.empty → tally.writers ≡ map.empty → tally.started ≡ false → tally.first ≡ 0
    → IsTallied [] tally
tallied-none tally changes count writes units writers started first = record {
  changes = changes;
  writes = λ session. ap (λ (m : map.FinMap nat_cmp ℕ). unwrap_or (map.get m session) 0) writes
      ∙ ap (λ o. unwrap_or o 0) (get-empty nat_cmp session);
  writers = λ key over.
      ap (λ (m : map.FinMap nat_cmp Writer). is_open over tally.units (map.get m key)) writers
      ∙ ap (is_open over tally.units) (get-empty nat_cmp key);
  quiet = λ key. ap (λ (b : Bool). b && not (is_stirred tally (map.get tally.writers key))) started;
  units = λ session. subst (IsNumbered tally.count)
      (sym (ap (λ (m : map.FinMap nat_cmp ℕ). map.get m session) units ∙ get-empty nat_cmp session))
      tt;
  written = λ key. subst (λ (o : Option Writer). IsNumbered tally.count (unit_written o))
      (sym (ap (λ (m : map.FinMap nat_cmp Writer). map.get m key) writers ∙ get-empty nat_cmp key))
      tt;
  first = omega (arith, first);
  kept = λ session. ap (is_kept tally.first (map.get tally.held session))
      (ap (λ (m : map.FinMap nat_cmp ℕ). map.get m session) units ∙ get-empty nat_cmp session);
}

at_once : (b : Bool) (v w : ℕ) (o : Option ℕ) → (b ≡ true → v ≡ w) → cond b v w ≡ w
at_once true v w o e = e refl
at_once false v w o e = refl

-- a write is not the end of a unit, nor a rollback
write_goes_on : (stmt : Stmt) (reply : Reply) → is_write stmt reply ≡ true
    → is_unit_end stmt reply ≡ false
write_goes_on (stmts.Insert row) replies.Done e = refl
write_goes_on (stmts.Update row) replies.Done e = refl
write_goes_on (stmts.Delete key) replies.Done e = refl
write_goes_on (stmts.Select key) replies.Done e = refl
write_goes_on (stmts.Scan lo hi) replies.Done e = refl
write_goes_on (stmts.Find cat) replies.Done e = refl
write_goes_on stmts.Commit replies.Done e = absurd (cc (e))
write_goes_on stmts.Rollback replies.Done e = absurd (cc (e))
write_goes_on stmt reply e = absurd (cc (e))

-- a rollback ends the unit
rollback_ends : (stmt : Stmt) (reply : Reply) → is_rollback stmt reply ≡ true
    → is_unit_end stmt reply ≡ true
rollback_ends stmts.Commit replies.Done e = refl
rollback_ends stmt reply e = e

-- what a write names is its key
names_written : (stmt : Stmt) (reply : Reply) (key : ℕ) → is_write stmt reply ≡ true
    → is_write_of key stmt reply ≡ (key_written stmt == key)
names_written (stmts.Insert row) replies.Done key e = refl
names_written (stmts.Update row) replies.Done key e = refl
names_written (stmts.Delete k) replies.Done key e = refl
names_written (stmts.Select k) replies.Done key e = absurd (cc (e))
names_written (stmts.Scan lo hi) replies.Done key e = absurd (cc (e))
names_written (stmts.Find cat) replies.Done key e = absurd (cc (e))
names_written stmts.Commit replies.Done key e = absurd (cc (e))
names_written stmts.Rollback replies.Done key e = absurd (cc (e))
names_written stmt reply key e = absurd (cc (e))

names_none : (stmt : Stmt) (reply : Reply) (key : ℕ) → is_write stmt reply ≡ false
    → is_write_of key stmt reply ≡ false
names_none stmt reply key e = ap (λ (b : Bool). b && names_key key stmt) e

plus_none : (a b : ℕ) → a ≡ b → a ≡ b + 0
plus_none a b e = omega (arith, e)

same_unit : (count number : ℕ) (o : Option ℕ) → number < count
    → is_unit (Some (unwrap_or o count)) number ≡ is_unit o number
same_unit count number None below = grind (arith, nat_tests, below)
same_unit count number (Some unit) below = refl

-- a unit that is open has been held, or begins now
is_held : (first count : ℕ) (held o : Option ℕ) → first ≤ count → is_kept first held o ≡ true
    → is_kept first held (Some (unwrap_or o count)) ≡ true
is_held first count held None le kept = ap (λ b. b || is_unit held count) (le-leb first count le)
is_held first count held (Some unit) le kept = kept

more : (count : ℕ) (o : Option ℕ) → IsNumbered count o → IsNumbered (count + 1) o
more count None is = tt
more count (Some unit) is = omega (arith, is)

this : (count : ℕ) (o : Option ℕ) → IsNumbered count o → unwrap_or o count < count + 1
this count None is = omega arith
this count (Some unit) is = omega (arith, is)

module _ (past : List Entry) (tally : Tally) (is : IsTallied past tally) where
  -- by what the statement was: a write, a rollback, the end of a unit
  abbrev said_by : Session → ℕ → Bool → Bool → Bool → Tally
  said_by session key w r u =
      cond w (tally_write tally session key)
      (cond r (tally_end (tally_rollback tally session) session)
      (cond u (tally_end tally session) tally))

  changes_by : (session : Session) (key : ℕ) (w r u : Bool)
      → (said_by session key w r u).changes
      ≡ changes past + cond w 1 (cond r (unit_writes session.0 past) 0)
  changes_by session key true r u = ap (λ n. n + 1) is.changes
  changes_by session key false true u = ap (λ n. n + writes_of tally session.0) is.changes
      ∙ ap (λ n. changes past + n) (is.writes session.0)
  changes_by session key false false true = plus_none tally.changes (changes past) is.changes
  changes_by session key false false false = plus_none tally.changes (changes past) is.changes

  more_at : (session : Session) (q : ℕ) (b : Bool) → (b ≡ true → session.0 ≡ q)
      → unwrap_or (cond b (Some (writes_of tally session.0 + 1)) (map.get tally.writes q)) 0
      ≡ cond b (unit_writes q past + 1) (unit_writes q past)
  more_at session q true at =
      ap (λ n. writes_of tally n + 1) (at refl) ∙ ap (λ n. n + 1) (is.writes q)
  more_at session q false at = is.writes q

  none_at : (q : ℕ) (b : Bool)
      → unwrap_or (cond b None (map.get tally.writes q)) 0 ≡ cond b 0 (unit_writes q past)
  none_at q true = refl
  none_at q false = is.writes q

  ended_writes : (session : Session) (q : ℕ)
      → unwrap_or (map.get (map.remove tally.writes session.0) q) 0
      ≡ cond (session.0 == q) 0 (unit_writes q past)
  ended_writes session q =
      ap (λ o. unwrap_or o 0) (get-remove nat_cmp_total tally.writes session.0 q)
      ∙ ap (λ b. unwrap_or (cond b None (map.get tally.writes q)) 0) (cmp_turned q session.0)
      ∙ none_at q (session.0 == q)

  same_either : (b : Bool) (n : ℕ) → n ≡ cond b n n
  same_either true n = refl
  same_either false n = refl

  writes_by : (session : Session) (key q : ℕ) (w r u : Bool) → (w ≡ true → u ≡ false)
      → (r ≡ true → u ≡ true)
      → writes_of (said_by session key w r u) q
      ≡ cond (session.0 == q) (cond u 0 (cond w (unit_writes q past + 1) (unit_writes q past)))
      (unit_writes q past)
  writes_by session key q true r u goes ends =
      ap (λ o. unwrap_or o 0)
      (get-insert nat_cmp_total tally.writes session.0 (writes_of tally session.0 + 1) q)
      ∙
      ap (λ b. unwrap_or (cond b (Some (writes_of tally session.0 + 1)) (map.get tally.writes q)) 0)
      (cmp_turned q session.0)
      ∙ more_at session q (session.0 == q) (eqb-true session.0 q)
      ∙ ap (λ b. cond (session.0 == q) (cond b 0 (unit_writes q past + 1)) (unit_writes q past))
      (sym (goes refl))
  writes_by session key q false true u goes ends = ended_writes session q
      ∙ ap (λ b. cond (session.0 == q) (cond b 0 (unit_writes q past)) (unit_writes q past))
      (sym (ends refl))
  writes_by session key q false false true goes ends = ended_writes session q
  writes_by session key q false false false goes ends =
      is.writes q ∙ same_either (session.0 == q) (unit_writes q past)

  open_over : (session number : ℕ) (over : List ℕ) (w : ℕ) (b : Bool) → (session == w) ≡ b
      → (not (is_among over w) && is_unit (cond b None (map.get tally.units w)) number)
      ≡ (not (b || is_among over w) && is_unit (map.get tally.units w) number)
  open_over session number over w true e = and-false (not (is_among over w))
  open_over session number over w false e = refl

  open_without : (session : ℕ) (over : List ℕ) (o : Option Writer)
      → is_open over (map.remove tally.units session) o ≡ is_open (session ∷ over) tally.units o
  open_without session over None = refl
  open_without session over (Some w) =
      ap (λ o. not (is_among over w.session) && is_unit o w.unit)
      (get-remove nat_cmp_total tally.units session w.session
      ∙ ap (λ b. cond b None (map.get tally.units w.session)) (cmp_turned w.session session))
      ∙ open_over session w.unit over w.session (session == w.session) refl

  ended_writers : (session q : ℕ) (over : List ℕ)
      → is_open over (map.remove tally.units session) (map.get tally.writers q)
      ≡ is_locked_in q (session ∷ over) past
  ended_writers session q over =
      open_without session over (map.get tally.writers q) ∙ is.writers q (session ∷ over)

  unit_at : (session number w : ℕ) (b : Bool) → eq_by_cmp nat_cmp w session ≡ b
      → number < tally.count
      → is_unit (cond b (Some (unit_of tally session)) (map.get tally.units w)) number
      ≡ is_unit (map.get tally.units w) number
  unit_at session number w true e below =
      same_unit tally.count number (map.get tally.units session) below
      ∙ ap (λ s. is_unit (map.get tally.units s) number) (sym (cmp_one w session e))
  unit_at session number w false e below = refl

  open_still : (session : ℕ) (over : List ℕ) (o : Option Writer)
      → IsNumbered tally.count (unit_written o)
      → is_open over (map.insert tally.units session (unit_of tally session)) o
      ≡ is_open over tally.units o
  open_still session over None below = refl
  open_still session over (Some w) below =
      ap (λ b. not (is_among over w.session) && b) (ap (λ o. is_unit o w.unit)
      (get-insert nat_cmp_total tally.units session (unit_of tally session) w.session)
      ∙ unit_at session w.unit w.session (eq_by_cmp nat_cmp w.session session) refl below)

  abbrev writer_of : ℕ → Writer
  writer_of session = record { session = session; unit = unit_of tally session }

  open_itself : (session : ℕ) (over : List ℕ)
      → is_open over (map.insert tally.units session (unit_of tally session))
      (Some (writer_of session)) ≡ not (is_among over session)
  open_itself session over =
      ap (λ o. not (is_among over session) && is_unit o (unit_of tally session))
      (get-insert nat_cmp_total tally.units session (unit_of tally session) session
      ∙ ap (λ b. cond b (Some (unit_of tally session)) (map.get tally.units session))
      (cmp_turned session session ∙ nat_itself session))
      ∙ ap (λ b. not (is_among over session) && b) (nat_itself (unit_of tally session))
      ∙ and-true (not (is_among over session))

  written_at : (session q : ℕ) (over : List ℕ) (b : Bool)
      → is_open over (map.insert tally.units session (unit_of tally session))
      (cond b (Some (writer_of session)) (map.get tally.writers q))
      ≡ cond b (not (is_among over session)) (is_locked_in q over past)
  written_at session q over true = open_itself session over
  written_at session q over false =
      open_still session over (map.get tally.writers q) (is.written q) ∙ is.writers q over

  writers_by : (session : Session) (key q : ℕ) (over : List ℕ) (w r u n : Bool)
      → (w ≡ true → u ≡ false) → (r ≡ true → u ≡ true) → (w ≡ true → n ≡ (key == q))
      → (w ≡ false → n ≡ false)
      →
      is_open over (said_by session key w r u).units (map.get (said_by session key w r u).writers q)
      ≡ cond u (is_locked_in q (session.0 ∷ over) past)
      (cond n (not (is_among over session.0)) (is_locked_in q over past))
  writers_by session key q over true r u n goes ends at none =
      ap (is_open over (map.insert tally.units session.0 (unit_of tally session.0)))
      (get-insert nat_cmp_total tally.writers key (writer_of session.0) q
      ∙ ap (λ b. cond b (Some (writer_of session.0)) (map.get tally.writers q))
      (cmp_turned q key ∙ sym (at refl)))
      ∙ written_at session.0 q over n
      ∙ ap
      (λ b. cond b (is_locked_in q (session.0 ∷ over) past)
      (cond n (not (is_among over session.0)) (is_locked_in q over past))) (sym (goes refl))
  writers_by session key q over false true u n goes ends at none =
      ended_writers session.0 q over
      ∙ ap
      (λ b. cond b (is_locked_in q (session.0 ∷ over) past)
      (cond n (not (is_among over session.0)) (is_locked_in q over past))) (sym (ends refl))
  writers_by session key q over false false true n goes ends at none =
      ended_writers session.0 q over
  writers_by session key q over false false false n goes ends at none =
      is.writers q over
      ∙ ap (λ b. cond b (not (is_among over session.0)) (is_locked_in q over past))
      (sym (none refl))

  stirred_itself : (session : ℕ) → is_stirred tally (Some (writer_of session)) ≡ true
  stirred_itself session = is_held tally.first tally.count (map.get tally.held session)
      (map.get tally.units session) is.first (is.kept session)

  stirred_at : (session q : ℕ) (b : Bool)
      → (tally.started
      && not (is_stirred tally (cond b (Some (writer_of session)) (map.get tally.writers q))))
      ≡ (not b && is_quiet q past)
  stirred_at session q true =
      ap (λ b. tally.started && not b) (stirred_itself session) ∙ and-false tally.started
  stirred_at session q false = is.quiet q

  quiet_by : (session : Session) (key q : ℕ) (w r u n : Bool) → (w ≡ true → n ≡ (key == q))
      → (w ≡ false → n ≡ false)
      → tally_quiet (said_by session key w r u) q ≡ (not n && is_quiet q past)
  quiet_by session key q true r u n at none =
      ap (λ o. tally.started && not (is_stirred tally o))
      (get-insert nat_cmp_total tally.writers key (writer_of session.0) q
      ∙ ap (λ b. cond b (Some (writer_of session.0)) (map.get tally.writers q))
      (cmp_turned q key ∙ sym (at refl)))
      ∙ stirred_at session.0 q n
  quiet_by session key q false true u n at none =
      is.quiet q ∙ ap (λ b. not b && is_quiet q past) (sym (none refl))
  quiet_by session key q false false true n at none =
      is.quiet q ∙ ap (λ b. not b && is_quiet q past) (sym (none refl))
  quiet_by session key q false false false n at none =
      is.quiet q ∙ ap (λ b. not b && is_quiet q past) (sym (none refl))

  number_at : (session q : ℕ) (b : Bool)
      → IsNumbered (tally.count + 1) (cond b (Some (unit_of tally session)) (map.get tally.units q))
  number_at session q true = this tally.count (map.get tally.units session) (is.units session)
  number_at session q false = more tally.count (map.get tally.units q) (is.units q)

  number_left : (q : ℕ) (b : Bool) → IsNumbered tally.count (cond b None (map.get tally.units q))
  number_left q true = tt
  number_left q false = is.units q

  ended_units : (session q : ℕ)
      → IsNumbered tally.count (map.get (map.remove tally.units session) q)
  ended_units session q =
      subst (IsNumbered tally.count) (sym (get-remove nat_cmp_total tally.units session q))
      (number_left q (eq_by_cmp nat_cmp q session))

  units_by : (session : Session) (key q : ℕ) (w r u : Bool)
      → IsNumbered (said_by session key w r u).count (map.get (said_by session key w r u).units q)
  units_by session key q true r u =
      subst (IsNumbered (tally.count + 1))
      (sym (get-insert nat_cmp_total tally.units session.0 (unit_of tally session.0) q))
      (number_at session.0 q (eq_by_cmp nat_cmp q session.0))
  units_by session key q false true u = ended_units session.0 q
  units_by session key q false false true = ended_units session.0 q
  units_by session key q false false false = is.units q

  writer_at : (session q : ℕ) (b : Bool)
      → IsNumbered (tally.count + 1)
      (unit_written (cond b (Some (writer_of session)) (map.get tally.writers q)))
  writer_at session q true = this tally.count (map.get tally.units session) (is.units session)
  writer_at session q false =
      more tally.count (unit_written (map.get tally.writers q)) (is.written q)

  written_by : (session : Session) (key q : ℕ) (w r u : Bool)
      → IsNumbered (said_by session key w r u).count
      (unit_written (map.get (said_by session key w r u).writers q))
  written_by session key q true r u =
      subst (λ (o : Option Writer). IsNumbered (tally.count + 1) (unit_written o))
      (sym (get-insert nat_cmp_total tally.writers key (writer_of session.0) q))
      (writer_at session.0 q (eq_by_cmp nat_cmp q key))
  written_by session key q false true u = is.written q
  written_by session key q false false true = is.written q
  written_by session key q false false false = is.written q

  first_by : (session : Session) (key : ℕ) (w r u : Bool)
      → (said_by session key w r u).first ≤ (said_by session key w r u).count
  first_by session key true r u = omega (arith, is.first)
  first_by session key false true u = is.first
  first_by session key false false true = is.first
  first_by session key false false false = is.first

  kept_at : (session q : ℕ) (b : Bool) → eq_by_cmp nat_cmp q session ≡ b
      → is_kept tally.first (map.get tally.held q)
      (cond b (Some (unit_of tally session)) (map.get tally.units q)) ≡ true
  kept_at session q true e =
      ap (λ s. is_kept tally.first (map.get tally.held s) (Some (unit_of tally session)))
      (cmp_one q session e)
      ∙ is_held tally.first tally.count (map.get tally.held session) (map.get tally.units session)
      is.first (is.kept session)
  kept_at session q false e = is.kept q

  kept_left : (q : ℕ) (b : Bool)
      → is_kept tally.first (map.get tally.held q) (cond b None (map.get tally.units q)) ≡ true
  kept_left q true = refl
  kept_left q false = is.kept q

  ended_kept : (session q : ℕ)
      → is_kept tally.first (map.get tally.held q) (map.get (map.remove tally.units session) q)
      ≡ true
  ended_kept session q = ap (is_kept tally.first (map.get tally.held q))
      (get-remove nat_cmp_total tally.units session q) ∙ kept_left q (eq_by_cmp nat_cmp q session)

  kept_by : (session : Session) (key q : ℕ) (w r u : Bool)
      → is_kept (said_by session key w r u).first (map.get (said_by session key w r u).held q)
      (map.get (said_by session key w r u).units q) ≡ true
  kept_by session key q true r u =
      ap (is_kept tally.first (map.get tally.held q))
      (get-insert nat_cmp_total tally.units session.0 (unit_of tally session.0) q)
      ∙ kept_at session.0 q (eq_by_cmp nat_cmp q session.0) refl
  kept_by session key q false true u = ended_kept session.0 q
  kept_by session key q false false true = ended_kept session.0 q
  kept_by session key q false false false = is.kept q

  open_none : (over : List ℕ) (o : Option Writer) → is_open over map.empty o ≡ false
  open_none over None = refl
  open_none over (Some w) =
      ap (λ o. not (is_among over w.session) && is_unit o w.unit) (get-empty nat_cmp w.session)
      ∙ and-false (not (is_among over w.session))

  -- at the start of a utility a key is stirred where it is locked
  stirred_open : (o : Option Writer) → IsNumbered tally.count (unit_written o)
      → is_stirred (record tally { first = tally.count; held = tally.units }) o
      ≡ is_open [] tally.units o
  stirred_open None below = refl
  stirred_open (Some w) below = ap (λ b. b || is_unit (map.get tally.units w.session) w.unit)
      (lt-leb tally.count w.unit below)

  kept_itself : (o : Option ℕ) → is_kept tally.count o o ≡ true
  kept_itself None = refl
  kept_itself (Some unit) =
      ap (λ b. nat_le tally.count unit || b) (nat_itself unit) ∙ or-true (nat_le tally.count unit)

  goes_said : (session : Session) (stmt : Stmt) (reply : Reply) (answer : Option Answer) (calls : ℕ)
      → IsTallied
      (record {
        actor = actors.Session session;
        event = events.Said stmt reply;
        answer = answer;
        calls = calls;
      } ∷ past) (tally_said tally session stmt reply)
  goes_said session stmt reply answer calls =
      let w = is_write stmt reply in
      let r = is_rollback stmt reply in
      let u = is_unit_end stmt reply in
      let key = key_written stmt in
      record {
        changes = changes_by session key w r u;
        writes = λ q. writes_by session key q w r u (write_goes_on stmt reply)
            (rollback_ends stmt reply);
        writers = λ q over. writers_by session key q over w r u (is_write_of q stmt reply)
            (write_goes_on stmt reply) (rollback_ends stmt reply) (names_written stmt reply q)
            (names_none stmt reply q);
        quiet = λ q. quiet_by session key q w r u (is_write_of q stmt reply)
            (names_written stmt reply q) (names_none stmt reply q);
        units = λ q. units_by session key q w r u;
        written = λ q. written_by session key q w r u;
        first = first_by session key w r u;
        kept = λ q. kept_by session key q w r u;
      }

  goes_on : (entry : Entry) → changes (entry ∷ past) ≡ changes past + 0
      → ((session : ℕ) → unit_writes session (entry ∷ past) ≡ unit_writes session past)
      → ((key : ℕ) (over : List ℕ)
      → is_locked_in key over (entry ∷ past) ≡ is_locked_in key over past)
      → ((key : ℕ) → is_quiet key (entry ∷ past) ≡ is_quiet key past)
      → IsTallied (entry ∷ past) tally
  goes_on entry changed writes locked quiet = record {
    changes = plus_none tally.changes (changes past) is.changes ∙ sym changed;
    writes = λ session. is.writes session ∙ sym (writes session);
    writers = λ key over. is.writers key over ∙ sym (locked key over);
    quiet = λ key. is.quiet key ∙ sym (quiet key);
    units = is.units;
    written = is.written;
    first = is.first;
    kept = is.kept;
  }

  goes_opened : (actor : Actor) (copy : ℕ) (rows pages used : ℕ) (answer : Option Answer)
      (calls : ℕ)
      → changes
      (record {
        actor = actor;
        event = events.Opened copy rows pages used;
        answer = answer;
        calls = calls;
      } ∷ past) ≡ changes past + 0
      → ((key : ℕ)
      → is_quiet key
      (record {
        actor = actor;
        event = events.Opened copy rows pages used;
        answer = answer;
        calls = calls;
      } ∷ past) ≡ is_quiet key past)
      → IsTallied
      (record {
        actor = actor;
        event = events.Opened copy rows pages used;
        answer = answer;
        calls = calls;
      } ∷ past) (record tally { writes = map.empty; units = map.empty })
  goes_opened actor copy rows pages used answer calls changed quiet = record {
    changes = plus_none tally.changes (changes past) is.changes ∙ sym changed;
    writes = λ session. ap (λ o. unwrap_or o 0) (get-empty nat_cmp session);
    writers = λ key over. open_none over (map.get tally.writers key);
    quiet = λ key. is.quiet key ∙ sym (quiet key);
    units = λ session. subst (IsNumbered tally.count) (sym (get-empty nat_cmp session)) tt;
    written = is.written;
    first = is.first;
    kept = λ session. ap (is_kept tally.first (map.get tally.held session))
        (get-empty nat_cmp session);
  }

  goes_by : (actor : Actor) (event : Event) (answer : Option Answer) (calls : ℕ)
      → IsTallied (record { actor = actor; event = event; answer = answer; calls = calls } ∷ past)
      (tally_after tally actor event)
  goes_by (actors.Session session) (events.Said stmt reply) answer calls =
      goes_said session stmt reply answer calls
  goes_by (actors.Session session) (events.Opened copy rows pages used) answer calls =
      goes_opened (actors.Session session) copy rows pages used answer calls refl (λ key. refl)
  goes_by actors.System (events.Opened copy rows pages used) answer calls =
      goes_opened actors.System copy rows pages used answer calls refl (λ key. refl)
  goes_by actors.Utility (events.Opened copy rows pages used) answer calls =
      goes_opened actors.Utility copy rows pages used answer calls refl (λ key. refl)
  goes_by actor (events.Started options copy pages) answer calls = record {
    changes = refl;
    writes = is.writes;
    writers = is.writers;
    quiet = λ key. ap not (stirred_open (map.get tally.writers key) (is.written key))
        ∙ ap not (is.writers key []);
    units = is.units;
    written = is.written;
    first = omega arith;
    kept = λ session. kept_itself (map.get tally.units session);
  }
  goes_by (actors.Session session) event answer calls = goes_on
      (record { actor = actors.Session session; event = event; answer = answer; calls = calls })
      refl (λ q. refl) (λ key over. refl) (λ key. refl)
  goes_by actors.System event answer calls =
      goes_on (record { actor = actors.System; event = event; answer = answer; calls = calls }) refl
      (λ q. refl) (λ key over. refl) (λ key. refl)
  goes_by actors.Utility event answer calls =
      goes_on (record { actor = actors.Utility; event = event; answer = answer; calls = calls })
      refl (λ q. refl) (λ key over. refl) (λ key. refl)

pub tallied-goes : (past : List Entry) (tally : Tally) (entry : Entry) → IsTallied past tally
    → IsTallied (entry ∷ past) (tally_after tally entry.actor entry.event)
tallied-goes past tally entry is =
    goes_by past tally is entry.actor entry.event entry.answer entry.calls
