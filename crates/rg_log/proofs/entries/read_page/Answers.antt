use Rattle.std.proofs.Common.{◌≡◌, ◌≤◌, sym, ◌∙◌, ap, subst, arith, rules, length, vec_len, eqb}
use lib.Pointwise.{pointwise, bytes_decides}
use Rattle.rg_record.specs.declared.fault.RecordFault.TheVariants.{NotARecord}
use Rattle.rg_image.specs.Kept.{AreEntries}
use Rattle.rg_image.specs.Pack.{fitting}
use Rattle.rg_image.specs.Page.{page_bytes}
use Rattle.rg_log.specs.Read.{AreNone}
use Rattle.rg_log.proofs.Form.{form_stands, form_read, not_both}
use Rattle.rg_log.proofs.entries.read_page.Goals as goal

pub returns-in-NotARecord : goal.returns-in-NotARecord
returns-in-NotARecord c = λ rs form.
    let stands = form_stands c.args.page c.get_u16-count.result c.args.bytes.now
    c.split_at.result.1.now rs (search rules) c.get_u16-count.ensures
    c.split_at.ensures.back form in
    let none : AreNone c.split_at.result.1.now c.get_u16-count.result NotARecord =
    subst (AreNone c.split_at.result.1.now c.get_u16-count.result) c.in-NotARecord.is
    c.in-Err.ensures.fault in
    none rs stands.0 stands.1

pub returns-then-is_empty : goal.returns-then-is_empty
returns-then-is_empty c = λ rs form.
    let found = form_read c.args.page c.get_u16-count.result c.args.bytes.now _
    c.in-Ok.records.items rs (search rules) c.get_u16-count.ensures
    c.split_at.ensures.back c.in-Ok.ensures.read form in
    let some : 1 ≤ length c.in-Ok.records.items = found.some in
    let empty : vec_len c.in-Ok.records ≡ 0 = search rules in
    absurd (omega (arith, some, c.in-Ok.records.ok.0, empty))

pub count_fitting-fitting-requires : goal.count_fitting-fitting-requires
count_fitting-fitting-requires c =
    subst AreEntries (sym c.deref.ensures.value) c.in-Ok.ensures.read.0

pub returns-then-fitting-len : goal.returns-then-fitting-len
returns-then-fitting-len c = λ rs form.
    let found = form_read c.args.page c.get_u16-count.result c.args.bytes.now _
    c.in-Ok.records.items rs (search rules) c.get_u16-count.ensures
    c.split_at.ensures.back c.in-Ok.ensures.read form in
    let fits : fitting 0 c.in-Ok.records.items ≡ length c.in-Ok.records.items = found.fits in
    absurd
    (omega (
      arith,
      fits,
      c.in-Ok.records.ok.0,
      c.count_fitting-fitting.ensures.count,
      ap (fitting 0) c.deref.ensures.value,
    ))

pub fill_page-requires-clause-entries : goal.fill_page-requires-clause-entries
fill_page-requires-clause-entries c =
    subst AreEntries (sym c.deref-2.ensures.value) c.in-Ok.ensures.read.0

pub returns-then-ne : goal.returns-then-ne
returns-then-ne c = λ rs form.
    let found = form_read c.args.page c.get_u16-count.result c.args.bytes.now _
    c.in-Ok.records.items rs (search rules) c.get_u16-count.ensures
    c.split_at.ensures.back c.in-Ok.ensures.read form in
    let same : c.fill_page.result ≡ c.args.bytes.now =
    c.fill_page.ensures ∙ ap (page_bytes c.args.page) c.deref-2.ensures.value
    ∙ sym found.spelt_so in
    let eq = (bytes_decides c.fill_page.result c.args.bytes.now).1 same in
    absurd
    (not_both (pointwise eqb c.fill_page.result c.args.bytes.now) eq
    (sym c.ne.ensures ∙ c.if-ne.true))
