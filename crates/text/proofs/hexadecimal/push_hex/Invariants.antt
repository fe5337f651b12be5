use Rattle.std.proofs.Common.{◌≡◌, ◌+◌, ◌-◌, ◌*◌, ◌≤◌, ◌++◌, length, take, string_bytes, string_len}
use Rattle.std.specs.String.{string_capacity}
use Rattle.text.specs.Hex.{hex_of}
use Rattle.text.proofs.hexadecimal.push_hex.Given as goal

abbrev pub invariant-loop-byte : goal.invariant-loop-byte
invariant-loop-byte l = record {
  written : string_bytes l.text ≡ string_bytes l.fn.text ++ hex_of (take l.byte-index l.bytes);
  room : string_len l.text + 2 * (length l.bytes - l.byte-index) ≤ string_capacity l.text;
}
