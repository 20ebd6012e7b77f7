-- Demand 3 of single offers and bundles (document 02, E1), in any mixture: what is claimed of two lists of offers holds of two lists of calls of both kinds, by what they
-- offer; and however one list of offers is cut into calls, the report is the same.
use Rattle.std.specs.Prelude.{ℕ, List}
use Rattle.rules.specs.declared.Form.{Form}
use Rattle.ledger.specs.BundleCalls.{Call, CallsMade}
use Rattle.replicas_theorem.specs.Copies.{CopyOf}

-- a copy to which calls of both kinds are made
abbrev pub CallCopy : Form → List Call → List ℕ → Type 0
CallCopy form cs text = CopyOf CallsMade form cs text
