-- `digest` meets its contract: the definition, at what the calls ensure.
use Rattle.std.proofs.Common.{◌≡◌, ap, ◌∙◌, ◌/◌, length, take}
use Rattle.sha256_fips180.specs.Fips180.{SHA-256, H⁰, bytes_of}
use Rattle.sha256_digest.specs.Tail.{hash_from, tail}
use Rattle.sha256_digest.proofs.Padding.{hash-whole}
use Rattle.sha256_digest.proofs.digest.Goals as goal

pub returns : goal.returns
unfolding SHA-256 H⁰
returns c =
    let t : take c.last_size.result c.last_blocks-b.result ≡ tail c.args.s.now = rw c.last_size.ensures.0 c.last_blocks-b.ensures in
    c.bytes_of.ensures
    ∙ ap bytes_of
    (c.blocks-2.ensures ∙ rw c.blocks-h.ensures (hash-whole c.args.s.now (take c.last_size.result c.last_blocks-b.result) t))
