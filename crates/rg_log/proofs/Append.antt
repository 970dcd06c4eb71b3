-- A log with one more record.
use Rattle.std.proofs.Common.{◌≡◌, ⊎_elim, ℕ, ◌+◌, ◌-◌, ◌≤◌, List, [], ◌∷◌, ◌++◌, length, take}
use Rattle.std.proofs.Common.{drop, sym, ◌∙◌, subst, ap, arith}
use Rattle.std.proofs.lemmas.List.{take-append-le, drop-append-le, length-append}
use Rattle.std.proofs.lemmas.List.Elements.{Contains-append_cases}
use Rattle.rg_record.specs.declared.record.Record.{Record}
use Rattle.rg_image.specs.Kept.{Begins, IsEntry, AreEntries}
use Rattle.rg_image.specs.Pack.{on_page, start, end_of, fitting, size_of, log_bytes}
use Rattle.rg_image.specs.Rules.{limit_of}
use Rattle.rg_image.proofs.Entries.{entry_size}
use Rattle.rg_image.proofs.Grow.{begins_more, fitting_more, one}
use Rattle.rg_log.specs.Kept.{IsForced, HasRoom}
use Rattle.rg_log.proofs.Room.{page_within}

pub entries_more : (rs : List Record) (r : Record) → IsEntry r → AreEntries rs
    → AreEntries (rs ++ r ∷ [])
entries_more rs r entry entries x c =
    ⊎_elim (λ old. entries x old) (λ new. subst IsEntry (sym (one r x new)) entry)
    (Contains-append_cases rs (r ∷ []) x c)

pub forced_more : (rs : List Record) (forced from page : ℕ) (r : Record) → IsEntry r
    → IsForced rs forced from page → IsForced (rs ++ r ∷ []) forced from page
forced_more rs forced from page r entry is =
    let fits = entry_size r entry in
    let len : length (rs ++ r ∷ []) ≡ length rs + 1 = length-append rs (r ∷ []) in
    let front : take from (rs ++ r ∷ []) ≡ take from rs =
    take-append-le from rs (r ∷ []) is.is_start.within in
    let back : drop from (rs ++ r ∷ []) ≡ drop from rs ++ r ∷ [] =
    drop-append-le from rs (r ∷ []) is.is_start.within in
    record {
      is_start = record {
        within = omega (arith, len, is.is_start.within);
        low = is.is_start.low;
        early = ap (on_page page start) front ∙ is.is_start.early;
        begins = subst (λ l. Begins (end_of start l) page (drop from (rs ++ r ∷ []))) (sym front)
            (subst (λ l. Begins (end_of start (take from rs)) page l) (sym back)
            (begins_more (end_of start (take from rs)) page (drop from rs) r (omega (arith, fits))
            is.is_start.begins));
      };
      low = is.low;
      high = subst (λ l. forced ≤ from + fitting 0 l) (sym back)
          (omega (arith, is.high, fitting_more 0 (drop from rs) r));
      within = omega (arith, len, is.within);
      entries = entries_more rs r entry is.entries;
    }

pub log_bytes_more : (rs : List Record) (r : Record)
    → log_bytes (rs ++ r ∷ []) ≡ log_bytes rs + size_of r
log_bytes_more [] r = omega arith
log_bytes_more (x ∷ rs) r = omega (arith, log_bytes_more rs r)

pub room_more : (rs : List Record) (bytes reserved pages capacity size : ℕ) (r : Record) → IsEntry r
    → AreEntries rs → size ≡ size_of r → size_of r ≤ reserved
    → HasRoom rs bytes reserved pages capacity → 23 ≤ size
    → HasRoom (rs ++ r ∷ []) (bytes + size) (reserved - size) pages capacity
room_more rs bytes reserved pages capacity size r entry entries same high room low =
    let more = log_bytes_more rs r in
    let len : length (rs ++ r ∷ []) ≡ length rs + 1 = length-append rs (r ∷ []) in
    let limit : log_bytes rs + reserved ≤ limit_of pages =
    room.limit (omega (arith, same, high, low)) in
    let within : log_bytes (rs ++ r ∷ []) ≤ limit_of pages = omega (arith, more, limit, high) in
    record {
      pages = room.pages;
      set = λ some. page_within (rs ++ r ∷ []) pages (entries_more rs r entry entries) some within;
      used = omega (arith, room.used, more, same);
      low = omega (arith, room.used, limit, room.pages, same, high);
      limit = λ some. omega (arith, more, limit, same, high);
      memory = omega (arith, len, room.memory, same, high, low);
    }
