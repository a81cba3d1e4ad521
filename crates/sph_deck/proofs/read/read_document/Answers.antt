use Rattle.std.proofs.Common.{arith}
use Rattle.std.proofs.lemmas.Result.{err_from_is_err_and}
use Rattle.toml.specs.View.{table_view}
use Rattle.sph_deck.specs.Document.{IsDocument}
use Rattle.sph_deck.proofs.Documents.{accepted_as, first_between, refused_table}
use Rattle.sph_deck.proofs.InRange.{numbers_within}
use Rattle.sph_deck.proofs.TextBound.{elements-le-length}
use Rattle.sph_deck.proofs.read.read_document.Goals as goal

pub read_table-requires : goal.read_table-requires
read_table-requires c =
    let document : IsDocument c.args.bytes.now (table_view c.in-Ok.top) = record { utf8 = c.in-Ok.ensures.ok.0; parsed = c.in-Ok.ensures.ok.1 } in
    omega (arith, elements-le-length c.args.bytes.now (table_view c.in-Ok.top) document)

pub returns-in_err-params : goal.returns-in_err-params
returns-in_err-params c =
    let p = err_from_is_err_and c.from_residual.result c.from_residual.ensures.1 in
    rw (p.1, p.2)
    (refused_table c.args.bytes.now _ (record { utf8 = c.in-Ok.ensures.ok.0; parsed = c.in-Ok.ensures.ok.1 }) c.requires _ c.in_err-params.ensures)

pub accept-requires : goal.accept-requires
accept-requires c =
    let read = c.in_ok-params.ensures in
    rw (read.params_are, read.particles_are) (numbers_within _ read.clean)

pub returns-in_err-accept : goal.returns-in_err-accept
returns-in_err-accept c =
    let p = err_from_is_err_and c.from_residual-in_err-accept.result c.from_residual-in_err-accept.ensures.1 in
    rw (p.1, p.2)
    (first_between c.args.bytes.now _ (record { utf8 = c.in-Ok.ensures.ok.0; parsed = c.in-Ok.ensures.ok.1 }) c.requires _ _ c.in_ok-params.ensures _ c.in_err-accept.ensures)

pub returns : goal.returns
returns c =
    accepted_as c.args.bytes.now _ (record { utf8 = c.in-Ok.ensures.ok.0; parsed = c.in-Ok.ensures.ok.1 }) c.requires _ _ c.in_ok-params.ensures _ c.in_ok-accept.ensures.0
    c.in_ok-accept.ensures.1
