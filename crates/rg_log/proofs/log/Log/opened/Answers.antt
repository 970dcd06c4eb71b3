use Rattle.std.proofs.Common.{◌≡◌, ◌≤◌, ap, subst, sym, arith, rules, length, ◌∙◌, vec_capacity}
use Rattle.rg_image.specs.Kept.{AreEntries}
use Rattle.rg_image.specs.Pack.{log_bytes}
use Rattle.rg_log.proofs.Room.{opened_bytes, opened_page}
use Rattle.rg_log.proofs.log.Log.opened.Goals as goal

pub all_bytes-used-requires-clause-few : goal.all_bytes-used-requires-clause-few
all_bytes-used-requires-clause-few c =
    omega (
      arith,
      opened_bytes c.args.records.items c.args.from c.args.page c.requires.opened
          (omega (arith, c.requires.page, c.requires.pages)),
      ap log_bytes c.as_slice.ensures.value,
    )

pub all_bytes-used-requires-clause-entries : goal.all_bytes-used-requires-clause-entries
all_bytes-used-requires-clause-entries c =
    subst AreEntries (sym c.as_slice.ensures.value) c.requires.entries

pub invariant_of-result-2 : goal.invariant_of-result-2
invariant_of-result-2 c =
    let low : 1 ≤ c.args.page = omega (arith, c.if-page-eq0.false) in
    let opened = c.requires.opened in
    let forced : c.len-forced.result ≡ length c.args.records.items =
    omega (arith, c.len-forced.ensures, c.args.records.ok.0) in
    let there = opened.there low in
    let whole = opened.whole low in
    let bytes : c.all_bytes-used.result ≡ log_bytes c.args.records.items =
    c.all_bytes-used.ensures ∙ ap log_bytes c.as_slice.ensures.value in
    let few = opened_bytes c.args.records.items c.args.from c.args.page opened
    (omega (arith, c.requires.page, c.requires.pages)) in
    let last = opened_page c.args.records.items c.args.from c.args.page opened low in
    let room : length c.args.records.items ≤ vec_capacity c.args.records = search rules in (
      record {
        is_start = opened.begins low;
        low = omega (arith, forced, there);
        high = omega (arith, forced, whole);
        within = omega (arith, forced);
        entries = c.requires.entries;
      },
      record {
        pages = c.requires.pages;
        set = λ some. omega (arith, last, c.requires.page);
        used = bytes;
        low = omega (arith, bytes, few);
        limit = λ some. absurd (omega (arith, some));
        memory = omega (arith, room);
      },
    )
