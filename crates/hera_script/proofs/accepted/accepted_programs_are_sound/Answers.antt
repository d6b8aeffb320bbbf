use Rattle.hera_lexer.proofs.Kept.{are_tokens}
use Rattle.hera_script.proofs.accepted.accepted_programs_are_sound.Goals as goal

pub returns : goal.returns
returns c = λ bytes hosts p short are accepted.
    let kept = are_tokens bytes accepted.tokens accepted.lexed short accepted.shallow in
    c.typed_programs_are_sound.ensures accepted.tree accepted.tokens hosts p accepted.text kept.few kept.values are accepted.typed
