use Rattle.std.proofs.Common.{◌≡◌, rules, arith}
use Rattle.hex.specs.Hex.{IsBytes, encode_lower}
use Rattle.mac_frame.proofs.Laws.Text.HexLines.{on-ok, hex-line-puts}
use Rattle.mac_frame.proofs.text.Text.put_hex_line.Goals as goal

pub returns : goal.returns
returns c =
    let bytes : IsBytes c.args.bytes.now = λ i. let f = c.type_inv.bytes i in omega arith in
    let written : c.encode_to_slice.new.output ≡ encode_lower c.args.bytes.now =
    on-ok c.encode_to_slice.result (c.encode_to_slice.ensures.fits.1 (search rules)) c.encode_to_slice.ensures.written in
    hex-line-puts _ _ _ _ _ bytes written c.put.ensures c.put-2.ensures
