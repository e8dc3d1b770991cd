-- `book::judge::own_plain`: a "no" says nothing.
use mathlib.Core.Path.{refl}
use Rattle.ground.proofs.Tests.{apart}
use Rattle.book.proofs.Rising.{structure_kind, structure_kept}
use Rattle.book.proofs.judge.own_plain.Goals as goal

pub returns-then-byte_there-ne-STRUCTURE : goal.returns-then-byte_there-ne-STRUCTURE
returns-then-byte_there-ne-STRUCTURE c = (λ e. absurd (apart e), λ k e. absurd (apart e))

pub returns-then-is_bare : goal.returns-then-is_bare
returns-then-is_bare c = (λ z. structure_kind _ _ _ _ _ _ c.byte_there.ensures.0 refl refl refl c.pair_there.ensures.0 c.if-byte_there-ne-STRUCTURE.false (c.is_bare.ensures c.if-is_bare.true).extensibility (c.is_bare.ensures c.if-is_bare.true).base (c.is_bare.ensures c.if-is_bare.true).element, λ k z. structure_kept _ _ _ _ _ _ c.byte_there.ensures.0 refl refl refl c.pair_there.ensures.0 c.if-byte_there-ne-STRUCTURE.false (c.is_bare.ensures c.if-is_bare.true).extensibility (c.is_bare.ensures c.if-is_bare.true).base (c.is_bare.ensures c.if-is_bare.true).element z k)

pub returns : goal.returns
returns c = (λ e. absurd (apart e), λ k e. absurd (apart e))
