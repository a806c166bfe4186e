-- A listing that grows part by part.
use Rattle.std.proofs.Common.{◌≡◌, ℕ, List, [], codes, Some, None, Option}
use Rattle.std.specs.Option.{MatchOption}
use Rattle.model.specs.Trellises.{Diagram}
use Rattle.listings.specs.Listings.{with_line, with_line_or, with_sizes, with_measure, with_anchor, with_states, listing}
use Rattle.setups.specs.declared.setup.Setup.{Setup}
use Rattle.descriptions.specs.Channels.{channel_of}

-- a line whose number may be absent
pub line_or : {N : Type 0} (figures : N → List ℕ) (text name absent after : List ℕ) (number : Option N) → MatchOption number (after ≡ with_line text name absent) (λ n. after ≡ with_line text name (figures n)) → after ≡ with_line_or figures text name absent number
line_or figures text name absent after None h = h
line_or figures text name absent after (Some n) h = h

-- the parts of a listing one after the other
pub listed : (s : Setup) (d : Diagram) (none sizes measure start end all : List ℕ) → d ≡ channel_of s.trellis → none ≡ [] → sizes ≡ with_sizes none d → measure ≡ with_measure sizes s.measure
    → start ≡ with_anchor measure (codes "start ") s.start → end ≡ with_anchor start (codes "end ") s.end → all ≡ with_states d end d.states → all ≡ listing s
listed s d none sizes measure start end all is e0 e1 e2 e3 e4 e5 = cc
