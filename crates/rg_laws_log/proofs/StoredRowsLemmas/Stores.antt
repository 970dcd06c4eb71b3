-- What a log stores, by its records and by their acts.
use Rattle.std.proofs.Common.{◌≡◌, ◌≤◌, ◌==◌, ◌&&◌, ◌||◌, ◌++◌, ℕ, Bool, true, false, List, [], ◌∷◌}
use Rattle.std.proofs.Common.{Option, None, Some, refl, sym, ◌∙◌, ap, subst, if◌then◌else◌}
use Rattle.std.proofs.Common.{append_assoc, append-nil, reverse, map}
use Rattle.std.proofs.lemmas.List.{map-append, reverse-append}
use Rattle.std.proofs.Math.Bool.{or-false, or_assoc}
use Rattle.rg_base.specs.declared.place.Place.{Place}
use Rattle.rg_base.specs.declared.row.Row.{Row}
use Rattle.rg_base.proofs.Small.{nat_turned}
use Rattle.rg_home.specs.Slot.{Slot}
use Rattle.rg_home.specs.Written.{Written}
use Rattle.rg_image.specs.Meaning.{has_key, is_commit, is_committed, last_made, made_of, or_before}
use Rattle.rg_image.specs.Meaning.{row_made, stored}
use Rattle.rg_record.specs.declared.record.Kind.{Kind}
use Rattle.rg_record.specs.declared.record.Kind.TheVariants as kinds
use Rattle.rg_record.specs.declared.record.Record.{Record}
use Rattle.rg_laws_log.specs.LogState.Act.{Act, LogState, nothing, state}
use Rattle.rg_laws_log.specs.LogState.Act.{Purge, Change, Undo, Commit, RollBack, Switch}
use Rattle.rg_laws_log.specs.LogState.Consistent.{stored_of}
use Rattle.rg_laws_log.specs.LogState.Lawful.{Runs}
use Rattle.rg_laws_log.specs.LogState.Records.{act_of, acts_of}
use Rattle.rg_laws_log.specs.LogState.Stored.{has_commit, last_of, stored_at}
use Rattle.rg_laws_log.specs.LogState.Tested.{LogBelow, Tested, opened}
use Rattle.rg_laws_log.specs.LogState.Write.{IsOf, NotBoth, OfKey, key_of}
use Rattle.rg_laws_log.proofs.LogStateLemmas.Agrees.{last_same}
use Rattle.rg_laws_log.proofs.LogStateLemmas.Later.{later_stored}
use Rattle.rg_laws_log.proofs.LogStateLemmas.Prefixes.{prefix_stored}
use Rattle.rg_laws_log.specs.StoredRows.Keyed.{AllTakeBack, TakesBack, TransBelow, keyed_write}
use Rattle.rg_laws_log.specs.StoredRows.Keyed.{keyed_acts, keyed_of}

-- the acts of records after others come before theirs
pub acts_join : (xs ys : List Record) → acts_of [] (xs ++ ys) ≡ acts_of [] ys ++ acts_of [] xs
acts_join xs ys = ap reverse (map-append (act_of []) xs ys)
    ∙ reverse-append (map (act_of []) xs) (map (act_of []) ys)

-- what the last Change of a key makes of it, by the units that count, if there is one
abbrev pub made_in : (ℕ → Bool) → ℕ → List Act → Option (Option Row)
made_in counts k [] = None
made_in counts k (Change w ∷ acts) =
    if counts w.written.owner && w.key == k then Some w.after else made_in counts k acts
made_in counts k (Purge parts ∷ acts) = made_in counts k acts
made_in counts k (Undo u home after parts ∷ acts) = made_in counts k acts
made_in counts k (Commit u ∷ acts) = made_in counts k acts
made_in counts k (RollBack u ∷ acts) = made_in counts k acts
made_in counts k (Switch pages ∷ acts) = made_in counts k acts

last_made_in : (counts : ℕ → Bool) (k : ℕ) (acts : List Act)
    → last_of counts k acts ≡ row_made (made_in counts k acts)
last_made_in counts k [] = refl
last_made_in counts k (Change w ∷ acts) =
    go (counts w.written.owner && w.key == k) (last_made_in counts k acts)
  where
    go : (b : Bool) → last_of counts k acts ≡ row_made (made_in counts k acts)
        → (if b then w.after else last_of counts k acts)
        ≡ row_made (if b then Some w.after else made_in counts k acts)
    go true rest = refl
    go false rest = rest
last_made_in counts k (Purge parts ∷ acts) = last_made_in counts k acts
last_made_in counts k (Undo u home after parts ∷ acts) = last_made_in counts k acts
last_made_in counts k (Commit u ∷ acts) = last_made_in counts k acts
last_made_in counts k (RollBack u ∷ acts) = last_made_in counts k acts
last_made_in counts k (Switch pages ∷ acts) = last_made_in counts k acts

made_join : (counts : ℕ → Bool) (k : ℕ) (xs ys : List Act)
    → made_in counts k (xs ++ ys) ≡ or_before (made_in counts k xs) (made_in counts k ys)
made_join counts k [] ys = refl
made_join counts k (Change w ∷ xs) ys =
    go (counts w.written.owner && w.key == k) (made_join counts k xs ys)
  where
    go : (b : Bool)
        → made_in counts k (xs ++ ys) ≡ or_before (made_in counts k xs) (made_in counts k ys)
        → (if b then Some w.after else made_in counts k (xs ++ ys))
        ≡ or_before (if b then Some w.after else made_in counts k xs) (made_in counts k ys)
    go true rest = refl
    go false rest = rest
made_join counts k (Purge parts ∷ xs) ys = made_join counts k xs ys
made_join counts k (Undo u home after parts ∷ xs) ys = made_join counts k xs ys
made_join counts k (Commit u ∷ xs) ys = made_join counts k xs ys
made_join counts k (RollBack u ∷ xs) ys = made_join counts k xs ys
made_join counts k (Switch pages ∷ xs) ys = made_join counts k xs ys

-- ---- each Change is of one key

abbrev pub AreOfKey : List Act → Type 0
AreOfKey [] = Unit {0}
AreOfKey (Change w ∷ acts) = OfKey w × AreOfKey acts
AreOfKey (Purge parts ∷ acts) = AreOfKey acts
AreOfKey (Undo u home after parts ∷ acts) = AreOfKey acts
AreOfKey (Commit u ∷ acts) = AreOfKey acts
AreOfKey (RollBack u ∷ acts) = AreOfKey acts
AreOfKey (Switch pages ∷ acts) = AreOfKey acts

runs_of_key : (limit : ℕ) (first : LogState) (acts : List Act) → Runs limit first acts
    → AreOfKey acts
runs_of_key limit first [] runs = tt
runs_of_key limit first (Change w ∷ acts) runs =
    (runs.0.of_key, runs_of_key limit first acts runs.1)
runs_of_key limit first (Purge parts ∷ acts) runs = runs_of_key limit first acts runs.1
runs_of_key limit first (Undo u home after parts ∷ acts) runs = runs_of_key limit first acts runs.1
runs_of_key limit first (Commit u ∷ acts) runs = runs_of_key limit first acts runs.1
runs_of_key limit first (RollBack u ∷ acts) runs = runs_of_key limit first acts runs.1
runs_of_key limit first (Switch pages ∷ acts) runs = runs_of_key limit first acts runs.1

of_key_parts : (xs ys : List Act) → AreOfKey (xs ++ ys) → AreOfKey xs × AreOfKey ys
of_key_parts [] ys are = (tt, are)
of_key_parts (Change w ∷ xs) ys are = let (a, b) = of_key_parts xs ys are.1 in ((are.0, a), b)
of_key_parts (Purge parts ∷ xs) ys are = of_key_parts xs ys are
of_key_parts (Undo u home after parts ∷ xs) ys are = of_key_parts xs ys are
of_key_parts (Commit u ∷ xs) ys are = of_key_parts xs ys are
of_key_parts (RollBack u ∷ xs) ys are = of_key_parts xs ys are
of_key_parts (Switch pages ∷ xs) ys are = of_key_parts xs ys are

or_same : (b c : Bool) → b ≡ c → (b || c) ≡ c
or_same true c e = e
or_same false c e = refl

named : (k : ℕ) (before after : Option Row) → IsOf (key_of before after) before
    → NotBoth before after → (has_key k before || has_key k after) ≡ (key_of before after == k)
named k None None of some = absurd some
named k None (Some y) of some = refl
named k (Some x) None of some = or-false (x.key == k)
named k (Some x) (Some y) of some = or_same (x.key == k) (y.key == k) (ap (λ (n : ℕ). n == k) of)

if_both : (c h : Bool) (after : Option Row)
    → (if c then (if h then Some after else None) else None) ≡ (if c && h then Some after else None)
if_both true h after = refl
if_both false h after = refl

abbrev none_made : Option (Option Row)
none_made = None

if_none : (c : Bool) → (if c then none_made else none_made) ≡ none_made
if_none true = refl
if_none false = refl

-- what one record makes, and what its act makes
one_made : (counts : ℕ → Bool) (k t : ℕ) (kind : Kind) (entry : Record) → entry.kind ≡ kind
    → entry.tran.0 ≡ t → AreOfKey (act_of [] (record entry { kind = kind }) ∷ [])
    → (if counts entry.tran.0 then made_of k kind else None)
    ≡ made_in counts k (act_of [] (record entry { kind = kind }) ∷ [])
one_made counts k t (kinds.Change home before after parts) entry e f are =
    ap (λ (h : Bool). if counts entry.tran.0 then (if h then Some after else None) else None)
    (named k before after are.0.before are.0.some)
    ∙ if_both (counts entry.tran.0) (key_of before after == k) after
one_made counts k t (kinds.Undo next home after parts) entry e f are = if_none (counts entry.tran.0)
one_made counts k t kinds.Commit entry e f are = if_none (counts entry.tran.0)
one_made counts k t kinds.RolledBack entry e f are = if_none (counts entry.tran.0)
one_made counts k t (kinds.Purge parts) entry e f are = if_none (counts entry.tran.0)
one_made counts k t (kinds.Switch copy pages) entry e f are = if_none (counts entry.tran.0)

made_same : (log : List Record) (rs : List Record) (k : ℕ) → AreOfKey (acts_of [] rs)
    → last_made log rs k ≡ made_in (is_committed log) k (acts_of [] rs)
made_same log [] k are = refl
made_same log (e ∷ rs) k are =
    let joined = acts_join (e ∷ []) rs in
    let (rest, one) =
    of_key_parts (acts_of [] rs) (acts_of [] (e ∷ [])) (subst AreOfKey joined are) in
    ap
    (λ (o : Option (Option Row)). or_before o
    (if is_committed log e.tran.0 then made_of k e.kind else None)) (made_same log rs k rest)
    ∙ ap (or_before (made_in (is_committed log) k (acts_of [] rs)))
    (one_made (is_committed log) k e.tran.0 e.kind e refl refl one)
    ∙ sym (made_join (is_committed log) k (acts_of [] rs) (acts_of [] (e ∷ [])))
    ∙ ap (made_in (is_committed log) k) (sym joined)

-- ---- which transactions are committed

commit_join : (t : ℕ) (xs ys : List Act)
    → has_commit t (xs ++ ys) ≡ (has_commit t xs || has_commit t ys)
commit_join t [] ys = refl
commit_join t (Commit u ∷ xs) ys = go (t == u) (commit_join t xs ys)
  where
    go : (b : Bool) → has_commit t (xs ++ ys) ≡ (has_commit t xs || has_commit t ys)
        → (b || has_commit t (xs ++ ys)) ≡ ((b || has_commit t xs) || has_commit t ys)
    go true rest = refl
    go false rest = rest
commit_join t (Change w ∷ xs) ys = commit_join t xs ys
commit_join t (Purge parts ∷ xs) ys = commit_join t xs ys
commit_join t (Undo u home after parts ∷ xs) ys = commit_join t xs ys
commit_join t (RollBack u ∷ xs) ys = commit_join t xs ys
commit_join t (Switch pages ∷ xs) ys = commit_join t xs ys

one_commit : (t : ℕ) (kind : Kind) (entry : Record)
    → (is_commit kind && (entry.tran.0 == t))
    ≡ has_commit t (act_of [] (record entry { kind = kind }) ∷ [])
one_commit t (kinds.Change home before after parts) entry = refl
one_commit t (kinds.Undo next home after parts) entry = refl
one_commit t kinds.Commit entry = nat_turned entry.tran.0 t ∙ sym (or-false (t == entry.tran.0))
one_commit t kinds.RolledBack entry = refl
one_commit t (kinds.Purge parts) entry = refl
one_commit t (kinds.Switch copy pages) entry = refl

or_turned : (a b : Bool) → (a || b) ≡ (b || a)
or_turned true true = refl
or_turned true false = refl
or_turned false true = refl
or_turned false false = refl

committed_same : (rs : List Record) (t : ℕ) → is_committed rs t ≡ has_commit t (acts_of [] rs)
committed_same [] t = refl
committed_same (e ∷ rs) t =
    ap (λ (b : Bool). b || is_committed rs t) (one_commit t e.kind e)
    ∙ ap (λ (b : Bool). has_commit t (acts_of [] (e ∷ [])) || b) (committed_same rs t)
    ∙ or_turned (has_commit t (acts_of [] (e ∷ []))) (has_commit t (acts_of [] rs))
    ∙ sym (commit_join t (acts_of [] rs) (acts_of [] (e ∷ [])))
    ∙ ap (has_commit t) (sym (acts_join (e ∷ []) rs))

-- ---- records that are read by key

-- the writes of a Change by its two rows
both_made : (counts : ℕ → Bool) (k t : ℕ) (home : Place) (before after x y : Option Row)
    → made_in counts k (keyed_write t home before after y ++ keyed_write t home before after x)
    ≡ (if counts t then (if has_key k x || has_key k y then Some after else None) else None)
both_made counts k t home before after None None = sym (if_none (counts t))
both_made counts k t home before after None (Some y) = sym (if_both (counts t) (y.key == k) after)
both_made counts k t home before after (Some x) None = sym (if_both (counts t) (x.key == k) after)
    ∙ ap (λ (h : Bool). if counts t then (if h then Some after else None) else None)
    (sym (or-false (x.key == k)))
both_made counts k t home before after (Some x) (Some y) = go (counts t) (x.key == k) (y.key == k)
  where
    go : (c a b : Bool)
        → (if c && b then Some after else (if c && a then Some after else None))
        ≡ (if c then (if a || b then Some after else None) else None)
    go true true true = refl
    go true true false = refl
    go true false true = refl
    go true false false = refl
    go false a b = refl

keyed_made : (counts : ℕ → Bool) (k t : ℕ) (kind : Kind)
    → (if counts t then made_of k kind else None) ≡ made_in counts k (keyed_of t kind)
keyed_made counts k t (kinds.Change home before after parts) =
    sym (both_made counts k t home before after before after)
keyed_made counts k t (kinds.Undo next home after parts) = if_none (counts t)
keyed_made counts k t kinds.Commit = if_none (counts t)
keyed_made counts k t kinds.RolledBack = if_none (counts t)
keyed_made counts k t (kinds.Purge parts) = if_none (counts t)
keyed_made counts k t (kinds.Switch copy pages) = if_none (counts t)

old_made : (counts : ℕ → Bool) (log rs : List Record) (k : ℕ)
    → ((t : ℕ) → is_committed log t ≡ counts t)
    → last_made log rs k ≡ made_in counts k (keyed_acts rs)
old_made counts log [] k same = refl
old_made counts log (e ∷ rs) k same =
    ap
    (λ (o : Option (Option Row)). or_before o
    (if is_committed log e.tran.0 then made_of k e.kind else None)) (old_made counts log rs k same)
    ∙ ap
    (λ (b : Bool). or_before (made_in counts k (keyed_acts rs))
    (if b then made_of k e.kind else None)) (same e.tran.0)
    ∙ ap (or_before (made_in counts k (keyed_acts rs))) (keyed_made counts k e.tran.0 e.kind)
    ∙ sym (made_join counts k (keyed_acts rs) (keyed_of e.tran.0 e.kind))

keyed_ends : (t u : ℕ) (home : Place) (before after x : Option Row)
    → has_commit t (keyed_write u home before after x) ≡ false
keyed_ends t u home before after None = refl
keyed_ends t u home before after (Some row) = refl

keyed_commit : (t u : ℕ) (kind : Kind)
    → (is_commit kind && (u == t)) ≡ has_commit t (keyed_of u kind)
keyed_commit t u (kinds.Change home before after parts) =
    sym
    (commit_join t (keyed_write u home before after after) (keyed_write u home before after before)
    ∙ ap (λ (b : Bool). b || has_commit t (keyed_write u home before after before))
    (keyed_ends t u home before after after)
    ∙ keyed_ends t u home before after before)
keyed_commit t u (kinds.Undo next home after parts) = refl
keyed_commit t u kinds.Commit = nat_turned u t ∙ sym (or-false (t == u))
keyed_commit t u kinds.RolledBack = refl
keyed_commit t u (kinds.Purge parts) = refl
keyed_commit t u (kinds.Switch copy pages) = refl

old_committed : (rs : List Record) (t : ℕ) → is_committed rs t ≡ has_commit t (keyed_acts rs)
old_committed [] t = refl
old_committed (e ∷ rs) t =
    ap (λ (b : Bool). b || is_committed rs t) (keyed_commit t e.tran.0 e.kind)
    ∙ ap (λ (b : Bool). has_commit t (keyed_of e.tran.0 e.kind) || b) (old_committed rs t)
    ∙ or_turned (has_commit t (keyed_of e.tran.0 e.kind)) (has_commit t (keyed_acts rs))
    ∙ sym (commit_join t (keyed_acts rs) (keyed_of e.tran.0 e.kind))

pub stored_by_key : (rs : List Record) (k : ℕ) → stored rs k ≡ stored_at (keyed_acts rs) k
stored_by_key rs k =
    ap row_made (old_made (is_committed rs) rs rs k (λ t. refl))
    ∙ sym (last_made_in (is_committed rs) k (keyed_acts rs))
    ∙ last_same (is_committed rs) (λ t. has_commit t (keyed_acts rs)) (old_committed rs) k
    (keyed_acts rs)

-- ---- records that add nothing

none_keyed : (t : ℕ) (kind : Kind) → TakesBack kind → keyed_of t kind ≡ []
none_keyed t (kinds.Change home before after parts) is = absurd is
none_keyed t (kinds.Undo next home after parts) is = refl
none_keyed t kinds.Commit is = absurd is
none_keyed t kinds.RolledBack is = refl
none_keyed t (kinds.Purge parts) is = absurd is
none_keyed t (kinds.Switch copy pages) is = absurd is

undos_keyed : (more : List Record) → AllTakeBack more → keyed_acts more ≡ []
undos_keyed [] are = refl
undos_keyed (e ∷ more) are =
    ap (λ (xs : List Act). xs ++ keyed_of e.tran.0 e.kind) (undos_keyed more are.1)
    ∙ none_keyed e.tran.0 e.kind are.0

keyed_join : (xs ys : List Record) → keyed_acts (xs ++ ys) ≡ keyed_acts ys ++ keyed_acts xs
keyed_join [] ys = sym (append-nil (keyed_acts ys))
keyed_join (e ∷ xs) ys =
    ap (λ (acts : List Act). acts ++ keyed_of e.tran.0 e.kind) (keyed_join xs ys)
    ∙ append_assoc (keyed_acts ys) (keyed_acts xs) (keyed_of e.tran.0 e.kind)

pub undos_add_none : (rs more : List Record) → AllTakeBack more
    → keyed_acts (rs ++ more) ≡ keyed_acts rs
undos_add_none rs more are =
    keyed_join rs more ∙ ap (λ (acts : List Act). acts ++ keyed_acts rs) (undos_keyed more are)

-- ---- records after those that were keyed_acts

before_join : (a b c : Option (Option Row))
    → or_before (or_before a b) c ≡ or_before a (or_before b c)
before_join None b c = refl
before_join (Some x) b c = refl

last_join : (log xs ys : List Record) (k : ℕ)
    → last_made log (xs ++ ys) k ≡ or_before (last_made log ys k) (last_made log xs k)
last_join log [] ys k = go (last_made log ys k)
  where
    go : (o : Option (Option Row)) → o ≡ or_before o None
    go None = refl
    go (Some x) = refl
last_join log (e ∷ xs) ys k =
    let own = if is_committed log e.tran.0 then made_of k e.kind else None in
    ap (λ (o : Option (Option Row)). or_before o own) (last_join log xs ys k)
    ∙ before_join (last_made log ys k) (last_made log xs k) own

committed_join : (xs ys : List Record) (t : ℕ)
    → is_committed (xs ++ ys) t ≡ (is_committed xs t || is_committed ys t)
committed_join [] ys t = refl
committed_join (e ∷ xs) ys t =
    ap (λ (b : Bool). (is_commit e.kind && (e.tran.0 == t)) || b) (committed_join xs ys t)
    ∙ sym (or_assoc (is_commit e.kind && (e.tran.0 == t)) (is_committed xs t) (is_committed ys t))

all_committed : (old more : List Record) (t : ℕ)
    → is_committed (old ++ more) t ≡ has_commit t (acts_of [] more ++ keyed_acts old)
all_committed old more t =
    committed_join old more t
    ∙ ap (λ (b : Bool). b || is_committed more t) (old_committed old t)
    ∙ ap (λ (b : Bool). has_commit t (keyed_acts old) || b) (committed_same more t)
    ∙ or_turned (has_commit t (keyed_acts old)) (has_commit t (acts_of [] more))
    ∙ sym (commit_join t (acts_of [] more) (keyed_acts old))

all_stored : (old more : List Record) (k : ℕ) → AreOfKey (acts_of [] more)
    → stored (old ++ more) k ≡ stored_at (acts_of [] more ++ keyed_acts old) k
all_stored old more k are =
    let log = old ++ more in
    let acts = acts_of [] more ++ keyed_acts old in
    ap row_made (
    last_join log old more k
    ∙ ap (λ (o : Option (Option Row)). or_before o (last_made log old k)) (made_same log more k are)
    ∙ ap (or_before (made_in (is_committed log) k (acts_of [] more)))
    (old_made (is_committed log) log old k (λ t. refl))
    ∙ sym (made_join (is_committed log) k (acts_of [] more) (keyed_acts old))
    )
    ∙ sym (last_made_in (is_committed log) k acts)
    ∙ last_same (is_committed log) (λ t. has_commit t acts) (all_committed old more) k acts

-- a lawful log
pub log_stores : (limit : ℕ) (rs : List Record) → Runs limit nothing (acts_of [] rs) → (k : ℕ)
    → stored rs k ≡ stored_of (state nothing (acts_of [] rs)) k
log_stores limit rs runs k =
    all_stored [] rs k (runs_of_key limit nothing (acts_of [] rs) runs)
    ∙ ap (λ (acts : List Act). stored_at acts k) (append-nil (acts_of [] rs))
    ∙ prefix_stored limit (acts_of [] rs) runs k

-- ---- numbers of transactions

below_join : (top : ℕ) (xs ys : List Act) → LogBelow top xs → LogBelow top ys
    → LogBelow top (xs ++ ys)
below_join top [] ys a b = b
below_join top (Change w ∷ xs) ys a b = (a.0, below_join top xs ys a.1 b)
below_join top (Commit t ∷ xs) ys a b = (a.0, below_join top xs ys a.1 b)
below_join top (Purge parts ∷ xs) ys a b = below_join top xs ys a b
below_join top (Undo t home after parts ∷ xs) ys a b = below_join top xs ys a b
below_join top (RollBack t ∷ xs) ys a b = below_join top xs ys a b
below_join top (Switch pages ∷ xs) ys a b = below_join top xs ys a b

keyed_below : (top t : ℕ) (home : Place) (before after x : Option Row) → t ≤ top
    → LogBelow top (keyed_write t home before after x)
keyed_below top t home before after None le = tt
keyed_below top t home before after (Some row) le = (le, tt)

of_below : (top t : ℕ) (kind : Kind) → t ≤ top → LogBelow top (keyed_of t kind)
of_below top t (kinds.Change home before after parts) le =
    below_join top (keyed_write t home before after after) (keyed_write t home before after before)
    (keyed_below top t home before after after le) (keyed_below top t home before after before le)
of_below top t (kinds.Undo next home after parts) le = tt
of_below top t kinds.Commit le = (le, tt)
of_below top t kinds.RolledBack le = tt
of_below top t (kinds.Purge parts) le = tt
of_below top t (kinds.Switch copy pages) le = tt

all_below : (top : ℕ) (rs : List Record) → TransBelow top rs → LogBelow top (keyed_acts rs)
all_below top [] below = tt
all_below top (e ∷ rs) below = below_join top (keyed_acts rs) (keyed_of e.tran.0 e.kind)
    (all_below top rs below.1) (of_below top e.tran.0 e.kind below.0)

-- a log that was opened
pub opening_stores : (limit : ℕ) (pages : List (List Slot)) (units : List (List Written)) (top : ℕ)
    (old : List Record)
    → Tested limit pages units (stored_at (keyed_acts old)) top → TransBelow top old
    → (more : List Record)
    → Runs limit (opened pages units (stored_at (keyed_acts old)) top) (acts_of [] more) → (k : ℕ)
    → stored (old ++ more) k
    ≡ stored_of (state (opened pages units (stored_at (keyed_acts old)) top) (acts_of [] more)) k
opening_stores limit pages units top old tested below more runs k =
    let first = opened pages units (stored_at (keyed_acts old)) top in
    all_stored old more k (runs_of_key limit first (acts_of [] more) runs)
    ∙ later_stored limit pages units top (keyed_acts old) tested (all_below top old below)
    (acts_of [] more) runs k
