-- Units closed one after the other.
use Rattle.std.proofs.Common.{◌≡◌, ◌≤◌, ◌<◌, ◌+◌, ◌*◌, ◌++◌, ℕ, zero, suc, true, false, List, []}
use Rattle.std.proofs.Common.{◌∷◌, Option, None, Some, length, take, drop, slice_index_or, refl}
use Rattle.std.proofs.Common.{sym, ◌∙◌, ap, subst, arith, append_assoc, append-nil, length-append}
use Rattle.std.specs.List.{AllByRecursion, Contains}
use Rattle.std.specs.Option.{is_some}
use Rattle.std.proofs.lemmas.List.{length-map, map-append, take-append-le}
use Rattle.rg_base.specs.declared.place.Place.{Place}
use Rattle.rg_base.specs.declared.tran.Tran.{Tran}
use Rattle.rg_home.specs.Able.{Proper}
use Rattle.rg_image.specs.Pack.{log_bytes}
use Rattle.rg_page.specs.Bare.{numbers_of}
use Rattle.rg_page.specs.Content.{Content}
use Rattle.rg_space.specs.Space.{InStep, capacity_in, frames_of, summaries_of}
use Rattle.rg_check.specs.PageTests.Turns.{WereUndone}
use Rattle.rg_home.specs.Slot.{Slot}
use Rattle.rg_home.specs.Undo.{undone, undone_all}
use Rattle.rg_home.specs.Written.{Written}
use Rattle.rg_laws_log.specs.StoredRows.Keyed.{AllTakeBack}
use Rattle.rg_laws_log.specs.LogState.Tested.{all_of}
use Rattle.rg_laws_log.proofs.LogStateLemmas.Testing.{undone_join}
use Rattle.rg_log.specs.Kept.{Listed}
use Rattle.rg_page.specs.declared.list.ListFrames.{ListFrames}
use Rattle.rg_laws_pages.specs.UndoRoom.Needed.{NeededInTurn}
use Rattle.rg_record.specs.declared.record.Record.{Record}
use Rattle.rg_space.specs.declared.space.Space.{Space}
use Rattle.rg_check.specs.PageTests.Breach.{BreaksOf}
use Rattle.rg_undo.specs.Undoing.{written_of}
use Rattle.rg_undo.specs.Unit.{undo_records, writes_of}
use Rattle.rg_check.specs.OpenUnits.Unended.{left_of, owed_for}
use Rattle.rg_check.proofs.OpenUnitsLemmas.Opens.{owed_append}
use Rattle.rg_engine.specs.Bytes.{kind_bytes, taken_of}
use Rattle.rg_space.specs.Memory.{list_seen, space_pages}
use Rattle.rg_engine.specs.Newest.{StayNewest}
use Rattle.rg_image.specs.Rules.{last_position, of_tran, is_undo}
use Rattle.rg_laws_crash.specs.SoundVolume.Closing.{all_closed, closed_by, end_back, rolled_back}
use Rattle.rg_laws_crash.specs.SoundVolume.Left.{IsLacking, lefts_of, writes_left}
use Rattle.rg_restart.specs.Closed.{AllAtMost, ClosedAll, ClosedUnit, Closes, ClosesUnit, IsInStep}
use Rattle.rg_restart.specs.Closed.{TookBack, Undid}
use Rattle.rg_restart.proofs.Beginning.{below_join}
use Rattle.rg_restart.proofs.Exact.{writes_joined}
use Rattle.rg_restart.proofs.Staying.{stay_by, stay_ended, stay_join}
use Rattle.rg_restart.proofs.Undos.{takes_undo}

-- ---- the log

back_join : (xs ys : List Record) → AllTakeBack xs → AllTakeBack ys → AllTakeBack (xs ++ ys)
back_join [] ys all more = more
back_join (x ∷ xs) ys all more = (all.0, back_join xs ys all.1 more)

pub took_none : (log : Listed) → TookBack [] 0 log log
took_none log = record {
  more = [];
  records = sym (append-nil log.records);
  back = tt;
  below = λ top low. tt;
  forced = refl;
  pages = refl;
  reserved = omega arith;
  least = omega arith;
  most_bytes = omega arith;
}

pub took_join : (ts us ws : List ℕ) (m n : ℕ) (a b c : Listed)
    → ((top : ℕ) → AllAtMost top ws → AllAtMost top ts × AllAtMost top us) → TookBack ts m a b
    → TookBack us n b c → TookBack ws (m + n) a c
took_join ts us ws m n a b c parts one two = record {
  more = one.more ++ two.more;
  records = two.records ∙ ap (λ (rs : List Record). rs ++ two.more) one.records
      ∙ append_assoc a.records one.more two.more;
  back = back_join one.more two.more one.back two.back;
  below = λ top low. let both = parts top low in
      below_join top one.more two.more (one.below top both.0) (two.below top both.1);
  forced = two.forced ∙ one.forced;
  pages = two.pages ∙ one.pages;
  reserved = omega (arith, one.reserved, two.reserved);
  least = omega (arith, one.least, two.least);
  most_bytes = omega (arith, one.most_bytes, two.most_bytes);
}

pub took_most : (ts : List ℕ) (m n : ℕ) (a b : Listed) → m ≤ n → TookBack ts m a b
    → TookBack ts n a b
took_most ts m n a b le one = record {
  more = one.more;
  records = one.records;
  back = one.back;
  below = one.below;
  forced = one.forced;
  pages = one.pages;
  reserved = omega (arith, one.reserved, le);
  least = one.least;
  most_bytes = omega (arith, one.most_bytes, le);
}

pub undos_length : (position back : ℕ) (slots : List (List Slot)) (entries : List Record)
    → length (undo_records position back slots entries) ≡ length entries
undos_length position back slots [] = refl
undos_length position back slots (entry ∷ entries) =
    omega (arith, undos_length (position + 1) position (undone slots (written_of entry)) entries)

-- ---- the pages

needed_join : (cs ds : List Written) (pages : List (List Slot)) → NeededInTurn pages cs
    → NeededInTurn (undone_all pages cs) ds → NeededInTurn pages (cs ++ ds)
needed_join [] ds pages n m = m
needed_join (c ∷ cs) ds pages n m = (n.0, needed_join cs ds (undone pages c) n.1 m)

pub undid_join : (a b c : Space ListFrames) (xs ys : List Written) → Undid a b xs → Undid b c ys
    → Undid a c (xs ++ ys)
undid_join a b c xs ys one two = record {
  in_step = two.in_step;
  proper = two.proper;
  capacity = two.capacity ∙ one.capacity;
  needed = needed_join xs ys (space_pages a) one.needed
      (subst (λ (ps : List (List Slot)). NeededInTurn ps ys) one.slots two.needed);
  slots = two.slots ∙ ap (λ (ps : List (List Slot)). undone_all ps ys) one.slots
      ∙ sym (undone_join xs ys (space_pages a));
  count = two.count ∙ one.count;
}

-- Changes before it had what they need, and were undone
pub lacking_after : (pages : List (List Slot)) (before entries : List Record) (place : Place)
    → NeededInTurn pages (writes_of before)
    → IsLacking (undone_all pages (writes_of before)) entries place
    → IsLacking pages (before ++ entries) place
lacking_after pages before entries place needed lacks = record {
  done = before ++ lacks.done;
  entry = lacks.entry;
  rest = lacks.rest;
  is = ap (λ (es : List Record). before ++ es) lacks.is
      ∙ sym (append_assoc before lacks.done (lacks.entry ∷ lacks.rest));
  needed = subst (NeededInTurn pages) (sym joined)
      (needed_join (writes_of before) (writes_of lacks.done) pages needed lacks.needed);
  breach = subst (λ (ps : List (List Slot)). BreaksOf ps (written_of lacks.entry) (Some place))
      (sym (undone_join (writes_of before) (writes_of lacks.done) pages)
      ∙ ap (undone_all pages) (sym joined)) lacks.breach;
}
  where
    joined : writes_of (before ++ lacks.done) ≡ writes_of before ++ writes_of lacks.done
    joined = map-append written_of before lacks.done

-- and Changes after it wait
pub lacking_before : (pages : List (List Slot)) (entries after : List Record) (place : Place)
    → IsLacking pages entries place → IsLacking pages (entries ++ after) place
lacking_before pages entries after place lacks = record {
  done = lacks.done;
  entry = lacks.entry;
  rest = lacks.rest ++ after;
  is = ap (λ (es : List Record). es ++ after) lacks.is
      ∙ append_assoc lacks.done (lacks.entry ∷ lacks.rest) after;
  needed = lacks.needed;
  breach = lacks.breach;
}

-- ---- unit by unit

lefts_join : (ts us : List ℕ) (rs : List Record)
    → lefts_of (ts ++ us) rs ≡ lefts_of ts rs ++ lefts_of us rs
lefts_join [] us rs = refl
lefts_join (t ∷ ts) us rs = ap (λ (es : List Record). left_of t rs ++ es) (lefts_join ts us rs)
    ∙ sym (append_assoc (left_of t rs) (lefts_of ts rs) (lefts_of us rs))

all_join : (ts us : List ℕ) (rs : List Record)
    → all_of (writes_left (ts ++ us) rs) ≡ all_of (writes_left ts rs) ++ all_of (writes_left us rs)
all_join [] us rs = refl
all_join (t ∷ ts) us rs =
    ap (λ (cs : List Written). writes_of (left_of t rs) ++ cs) (all_join ts us rs)
    ∙ sym
    (append_assoc (writes_of (left_of t rs)) (all_of (writes_left ts rs))
    (all_of (writes_left us rs)))

closed_join : (ts : List ℕ) (t : ℕ) (rs : List Record) (pages : List (List Slot))
    (records : List Record)
    → all_closed (ts ++ t ∷ []) rs pages records
    ≡ closed_by t rs (undone_all pages (all_of (writes_left ts rs)))
    (all_closed ts rs pages records)
closed_join [] t rs pages records = refl
closed_join (u ∷ ts) t rs pages records =
    let after = undone_all pages (writes_of (left_of u rs)) in
    closed_join ts t rs after (closed_by u rs pages records)
    ∙ ap
    (λ (ps : List (List Slot)). closed_by t rs ps
    (all_closed ts rs after (closed_by u rs pages records)))
    (sym (undone_join (writes_of (left_of u rs)) (all_of (writes_left ts rs)) pages))

both_low : (top : ℕ) (ts us : List ℕ) → AllAtMost top (ts ++ us)
    → AllAtMost top ts × AllAtMost top us
both_low top [] us low = (tt, low)
both_low top (t ∷ ts) us low = let rest = both_low top ts us low.1 in ((low.0, rest.0), rest.1)

-- one unit more
pub closes_more :
    (t : ℕ) (ts : List ℕ) (rs : List Record) (a b c : Space ListFrames) (log mid later : Listed)
    → ClosedAll ts rs a b log mid → ClosedUnit t rs b c mid later
    → ClosedAll (ts ++ t ∷ []) rs a c log later
closes_more t ts rs a b c log mid later so closed = record {
  undid = subst (Undid a c)
      (sym
      (all_join ts (t ∷ []) rs
      ∙ ap (λ (cs : List Written). all_of (writes_left ts rs) ++ cs)
      (append-nil (writes_of (left_of t rs)))))
      (undid_join a b c (all_of (writes_left ts rs)) (writes_of (left_of t rs)) so.undid
      closed.undid);
  took = took_most (ts ++ t ∷ []) (owed_for ts rs + (911 * length (left_of t rs) + 23))
      (owed_for (ts ++ t ∷ []) rs) log later (omega (arith, owed_append ts (t ∷ []) rs))
      (took_join ts (t ∷ []) (ts ++ t ∷ []) (owed_for ts rs) (911 * length (left_of t rs) + 23) log
      mid later (λ top low. both_low top ts (t ∷ []) low) so.took closed.took);
  records = closed.records
      ∙ ap (λ (ps : List (List Slot)). closed_by t rs ps mid.records) so.undid.slots
      ∙ ap (closed_by t rs (undone_all (space_pages a) (all_of (writes_left ts rs)))) so.records
      ∙ sym (closed_join ts t rs (space_pages a) log.records);
  newest = stay_join log.records mid.records later.records a b c so.newest closed.newest;
}

-- a unit lacks something
pub lacks_more : (t : ℕ) (ts us : List ℕ) (rs : List Record) (a b : Space ListFrames)
    (log mid : Listed) (place : Place)
    → ClosedAll ts rs a b log mid → IsLacking (space_pages b) (left_of t rs) place
    → IsLacking (space_pages a) (lefts_of (ts ++ t ∷ us) rs) place
lacks_more t ts us rs a b log mid place so lacks =
    subst (λ (es : List Record). IsLacking (space_pages a) es place)
    (sym (lefts_join ts (t ∷ us) rs))
    (lacking_after (space_pages a) (lefts_of ts rs) (left_of t rs ++ lefts_of us rs) place needed
    (subst (λ (ps : List (List Slot)). IsLacking ps (left_of t rs ++ lefts_of us rs) place)
    (so.undid.slots ∙ ap (undone_all (space_pages a)) (sym (writes_joined ts rs)))
    (lacking_before (space_pages b) (left_of t rs) (lefts_of us rs) place lacks)))
  where
    needed : NeededInTurn (space_pages a) (writes_of (lefts_of ts rs))
    needed = subst (NeededInTurn (space_pages a)) (sym (writes_joined ts rs)) so.undid.needed

-- ---- one unit

pub closed_unit : (tran : ℕ) (rs : List Record) (old new : Space ListFrames)
    (log mid later : Listed) (undos : List Record) (last back : ℕ)
    → last ≡ last_position 0 (of_tran tran rs)
    → Undid old new (writes_of (left_of tran rs))
    → undos ≡ undo_records (length log.records + 1) last (space_pages old) (left_of tran rs)
    → TookBack (tran ∷ []) (911 * length undos) log mid → mid.records ≡ log.records ++ undos
    → back ≡ end_back last (length log.records) (left_of tran rs)
    → TookBack (tran ∷ []) 23 mid later
    → later.records ≡ mid.records ++ rolled_back (length mid.records + 1) back tran ∷ []
    → StayNewest log.records old (log.records ++ undos) new → ClosedUnit tran rs old new log later
closed_unit tran rs old new log mid later undos last back last_is undid made one mid_is back_is two
    later_is stay =
    let entries = left_of tran rs in
    let count : length undos ≡ length entries = ap (λ (us : List Record). length us) made
    ∙ undos_length (length log.records + 1) last (space_pages old) entries in
    let middle : length mid.records ≡ length log.records + length entries = omega
    (arith, ap (λ (us : List Record). length us) mid_is, length-append log.records undos, count) in
    record {
      undid = undid;
      took = took_most (tran ∷ []) (911 * length undos + 23) (911 * length entries + 23) log later
          (omega (arith, count))
          (took_join (tran ∷ []) (tran ∷ []) (tran ∷ []) (911 * length undos) 23 log mid later
          (λ top low. (low, low)) one two);
      records =
          later_is
          ∙ ap (λ (us : List Record). us ++ rolled_back (length mid.records + 1) back tran ∷ [])
          (mid_is
          ∙ ap (λ (us : List Record). log.records ++ us)
          (made
          ∙ ap (λ (n : ℕ). undo_records (length log.records + 1) n (space_pages old) entries)
          last_is))
          ∙ append_assoc log.records
          (undo_records (length log.records + 1) (last_position 0 (of_tran tran rs))
          (space_pages old) entries) (rolled_back (length mid.records + 1) back tran ∷ [])
          ∙ ap
          (λ (r : Record). log.records
          ++ (undo_records (length log.records + 1) (last_position 0 (of_tran tran rs))
          (space_pages old) entries ++ r ∷ []))
          (ap (λ (n : ℕ). rolled_back (n + 1) back tran) middle
          ∙ ap (λ (n : ℕ). rolled_back (length log.records + length entries + 1) n tran)
          (back_is ∙ ap (λ (n : ℕ). end_back n (length log.records) entries) last_is));
      newest =
          stay_join log.records mid.records later.records old new new
          (stay_by log.records (log.records ++ undos) log.records mid.records old new refl mid_is
          stay)
          (stay_by mid.records (mid.records ++ rolled_back (length mid.records + 1) back tran ∷ [])
          mid.records later.records new new refl later_is (stay_ended tran back mid.records new));
    }

-- one Undo was appended
pub one_undo : (tran : ℕ) (undo : Record) (log later : Listed) → is_undo undo.kind ≡ true
    → undo.tran.0 ≡ tran → kind_bytes undo.kind ≤ 911 → later.records ≡ log.records ++ undo ∷ []
    → later.reserved + kind_bytes undo.kind ≡ log.reserved
    → taken_of later ≡ taken_of log → later.pages ≡ log.pages → later.forced ≡ log.forced
    → TookBack (tran ∷ []) 911 log later
one_undo tran undo log later is of high records reserved taken pages forced = record {
  more = undo ∷ [];
  records = records;
  back = (takes_undo undo.kind is, tt);
  below = λ top low. (omega (arith, of, low.0), tt);
  forced = forced;
  pages = pages;
  reserved = omega (arith, reserved, high);
  least = omega (arith, taken, reserved);
  most_bytes = omega (arith, taken, reserved, high);
}

-- ---- what the calls say

-- the undo of a unit's Changes, over pages in memory
pub undone_unit : (tran position back : ℕ) (rs : List Record) (old new : Space ListFrames)
    (entries undos : List Record) → IsInStep old → Proper (space_pages old)
    → InStep (list_seen (frames_of new)) (summaries_of new) (capacity_in new)
    → capacity_in new ≡ capacity_in old
    → entries ≡ left_of tran rs
    → WereUndone position back (list_seen (frames_of old)) (list_seen (frames_of new))
    (summaries_of new) entries undos
    → Undid old new (writes_of (left_of tran rs))
    × (undos ≡ undo_records position back (space_pages old) (left_of tran rs))
undone_unit tran position back rs old new entries undos has proper step capacity is were = (
  record {
    in_step = record { step = step; agree = were.agree };
    proper = were.proper;
    capacity = capacity;
    needed =
        subst (λ (es : List Record). NeededInTurn (space_pages old) (writes_of es)) is were.needed;
    slots = were.slots ∙ ap (λ (es : List Record). undone_all (space_pages old) (writes_of es)) is;
    count = length-map (list_seen (frames_of new)).pages (λ (c : Content). c.slots) ∙ were.count
        ∙ sym (length-map (list_seen (frames_of old)).pages (λ (c : Content). c.slots));
  },
  were.made ∙ ap (undo_records position back (space_pages old)) is,
)

pub undid_none : (space : Space ListFrames) → IsInStep space → Proper (space_pages space)
    → Undid space space []
undid_none space has proper = record {
  in_step = has;
  proper = proper;
  capacity = refl;
  needed = tt;
  slots = refl;
  count = refl;
}

-- the first records are as they were
pub same_front : (count : ℕ) (ts : List ℕ) (most : ℕ) (log later : Listed)
    → count ≤ length log.records → TookBack ts most log later
    → take count later.records ≡ take count log.records
same_front count ts most log later within took =
    ap (take count) took.records ∙ take-append-le count log.records took.more within

-- the number at an index, between those before and those after
pub split_numbers : (at : ℕ) (trans : List Tran) (d : Tran) → at < length trans
    → numbers_of trans
    ≡ take at (numbers_of trans) ++ (slice_index_or trans at d).0 ∷ drop (suc at) (numbers_of trans)
split_numbers at [] d low = absurd (omega (arith, low))
split_numbers zero (t ∷ trans) d low = refl
split_numbers (suc at) (t ∷ trans) d low =
    ap (λ (ns : List ℕ). t.0 ∷ ns) (split_numbers at trans d (omega (arith, low)))

next_number : (at : ℕ) (trans : List Tran) (d : Tran) → at < length trans
    → take (suc at) (numbers_of trans)
    ≡ take at (numbers_of trans) ++ (slice_index_or trans at d).0 ∷ []
next_number at [] d low = absurd (omega (arith, low))
next_number zero (t ∷ trans) d low = refl
next_number (suc at) (t ∷ trans) d low =
    ap (λ (ns : List ℕ). t.0 ∷ ns) (next_number at trans d (omega (arith, low)))

pub one_more : (at : ℕ) (trans : List Tran) (d : Tran) → at < length trans
    → take (at + 1) (numbers_of trans)
    ≡ take at (numbers_of trans) ++ (slice_index_or trans at d).0 ∷ []
one_more at trans d low = let e : at + 1 ≡ suc at = omega arith in
    ap (λ (n : ℕ). take n (numbers_of trans)) e ∙ next_number at trans d low

-- what is reserved is enough for the next unit
pub next_room : (ts us : List ℕ) (t : ℕ) (rs : List Record) (all : List ℕ) (old now : ℕ)
    → all ≡ ts ++ t ∷ us → owed_for all rs ≤ old → old ≤ now + owed_for ts rs
    → 911 * length (left_of t rs) + 23 ≤ now
next_room ts us t rs all old now is room reserved =
    omega
    (arith, room, reserved, ap (λ (xs : List ℕ). owed_for xs rs) is, owed_append ts (t ∷ us) rs)

-- a unit lacks something, or is closed
pub closes_some : (t : ℕ) (ts us : List ℕ) (rs : List Record) (a b c : Space ListFrames)
    (log mid later : Listed) (breach : Option Place)
    → is_some breach ≡ true → ClosedAll ts rs a b log mid → ClosesUnit t rs b c mid later breach
    → Closes (ts ++ t ∷ us) rs a c log later breach
closes_some t ts us rs a b c log mid later None is so closes = absurd (cc (is))
closes_some t ts us rs a b c log mid later (Some place) is so closes =
    lacks_more t ts us rs a b log mid place so closes

pub closes_none : (t : ℕ) (ts : List ℕ) (rs : List Record) (a b c : Space ListFrames)
    (log mid later : Listed) (breach : Option Place)
    → is_some breach ≡ false → ClosedAll ts rs a b log mid → ClosesUnit t rs b c mid later breach
    → ClosedAll (ts ++ t ∷ []) rs a c log later
closes_none t ts rs a b c log mid later None is so closes =
    closes_more t ts rs a b c log mid later so closes
closes_none t ts rs a b c log mid later (Some place) is so closes = absurd (cc (is))

-- what was reserved before, and is given back after, is nothing to it
pub closes_out : (ts : List ℕ) (rs : List Record) (a b : Space ListFrames)
    (log reserved mid later : Listed) (breach : Option Place) → log.reserved ≡ 0
    → reserved.records ≡ log.records → reserved.forced ≡ log.forced → reserved.pages ≡ log.pages
    → later.records ≡ mid.records → later.forced ≡ mid.forced → later.pages ≡ mid.pages
    → Closes ts rs a b reserved mid breach → Closes ts rs a b log later breach
closes_out ts rs a b log reserved mid later (Some place) none rec forced pages rec' forced' pages'
    closes = closes
closes_out ts rs a b log reserved mid later None none rec forced pages rec' forced' pages' closes =
    record {
      undid = closes.undid;
      took = record {
        more = closes.took.more;
        records =
            rec' ∙ closes.took.records ∙ ap (λ (xs : List Record). xs ++ closes.took.more) rec;
        back = closes.took.back;
        below = closes.took.below;
        forced = forced' ∙ closes.took.forced ∙ forced;
        pages = pages' ∙ closes.took.pages ∙ pages;
        reserved = omega (arith, none);
        least = omega (arith, closes.took.least, ap log_bytes rec', ap log_bytes rec);
        most_bytes = omega (arith, closes.took.most_bytes, ap log_bytes rec', ap log_bytes rec);
      };
      records = rec' ∙ closes.records ∙ ap (all_closed ts rs (space_pages a)) rec;
      newest = stay_by reserved.records mid.records log.records later.records a b (sym rec) rec'
          closes.newest;
    }

-- the numbers of open transactions count from 1
pub low_numbers : (trans : List Tran) → ((t : ℕ) → Contains (numbers_of trans) t → 1 ≤ t)
    → AllByRecursion (λ (t : Tran). 1 ≤ t.0) trans
low_numbers [] all = tt
low_numbers (t ∷ trans) all = (all t.0 (zero, omega arith, refl), low_numbers trans later)
  where
    later : (u : ℕ) → Contains (numbers_of trans) u → 1 ≤ u
    later u (k, low, is) = all u (suc k, omega (arith, low), is)

pub end_none : (last count : ℕ) (entries : List Record) → length entries ≡ 0
    → end_back last count entries ≡ last
end_none last count [] none = refl
end_none last count (entry ∷ entries) none = absurd (omega (arith, none))

pub end_some : (last count : ℕ) (entries : List Record) → (length entries ≡ 0 → ⊥)
    → end_back last count entries ≡ count + length entries
end_some last count [] some = absurd (some refl)
end_some last count (entry ∷ entries) some = refl
