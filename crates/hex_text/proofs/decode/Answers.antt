use Rattle.std.proofs.Common.{vec_items, sym, ◌∙◌, arith, rules}
use Rattle.std.proofs.lemmas.Result.{err_from_is_err_and}
use Rattle.hex_text.proofs.Reading.{says, all_left, fault_left, byte_read, bytes_done}
use Rattle.hex_text.proofs.decode.Goals as goal

pub loop-high-init : goal.loop-high-init
loop-high-init c = search (rules, all_left)

pub loop-high-preserved : goal.loop-high-preserved
loop-high-preserved c = search (rules, byte_read)

pub returns-in_err-byte : goal.returns-in_err-byte
returns-in_err-byte c =
    let p = err_from_is_err_and c.from_residual.result c.from_residual.ensures.1 in
    let fault = fault_left c.as_chunks.result.0.now c.as_chunks.result.1.now c.loop-high.high-index (vec_items c.loop-high.bytes) _ (omega arith) (sym c.in_err-byte.ensures) in
    rw (p.1, p.2) (says _ _ (sym c.loop-high.invariant ∙ fault))

pub returns-in-empty : goal.returns-in-empty
returns-in-empty c = search (rules, bytes_done)
