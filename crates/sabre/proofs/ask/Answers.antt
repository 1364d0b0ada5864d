use mathlib.Core.Path.{refl, ◌∙◌}
use mathlib.Core.Bool.{true, false}
use Rattle.sabre.proofs.SoundAreas.{short_unfit, long_fit}
use Rattle.sabre.proofs.CallLaws.{reading_no_start, unfit_by, sound_state, fits_clock, answered_slot, answered, refused_1}
use Rattle.sabre.proofs.ask.Goals as goal

pub returns-then-area-lt65536 : goal.returns-then-area-lt65536
returns-then-area-lt65536 c =
    let u = unfit_by c.args.area.now c.args.c false (reading_no_start c.args.c c.requires) (short_unfit c.args.area.now c.if-area-lt65536.true) in
    let p = refused_1 c.args.area.now c.args.c _ _ u c.refuse.ensures.0 c.refuse.ensures.1 in
    record { returned = p.returned; told = p.told }

pub is_area_sound-requires : goal.is_area_sound-requires
is_area_sound-requires c = c.if-area-lt65536.false

pub ask-x-requires : goal.ask-x-requires
ask-x-requires c = let h = long_fit c.args.area.now _ _ _ c.if-area-lt65536.false c.decode-s.ensures.0 c.decode-s.ensures.1 refl _ c.is_area_sound.ensures ∙ c.if-is_area_sound.true in
    (c.requires, (fits_clock _ (sound_state c.args.area.now _ c.decode-s.ensures.0 h)).0)

pub tell-requires : goal.tell-requires
tell-requires c = let h = long_fit c.args.area.now _ _ _ c.if-area-lt65536.false c.decode-s.ensures.0 c.decode-s.ensures.1 refl _ c.is_area_sound.ensures ∙ c.if-is_area_sound.true in
    answered_slot c.args.area.now c.args.c _ c.decode-s.ensures.0 _ h c.ask-x.ensures

pub returns-then-is_area_sound : goal.returns-then-is_area_sound
returns-then-is_area_sound c = let h = long_fit c.args.area.now _ _ _ c.if-area-lt65536.false c.decode-s.ensures.0 c.decode-s.ensures.1 refl _ c.is_area_sound.ensures ∙ c.if-is_area_sound.true in
    let u = unfit_by c.args.area.now c.args.c true (reading_no_start c.args.c c.requires) h in
    let p = answered c.args.area.now c.args.c _ c.decode-s.ensures.0 _ _ _ u c.ask-x.ensures c.tell.ensures.0 c.tell.ensures.1 in
    record { returned = p.0; told = p.1 }

pub returns : goal.returns
returns c = let h = long_fit c.args.area.now _ _ _ c.if-area-lt65536.false c.decode-s.ensures.0 c.decode-s.ensures.1 refl _ c.is_area_sound.ensures ∙ c.if-is_area_sound.false in
    let u = unfit_by c.args.area.now c.args.c false (reading_no_start c.args.c c.requires) h in
    let p = refused_1 c.args.area.now c.args.c _ _ u c.refuse-2.ensures.0 c.refuse-2.ensures.1 in
    record { returned = p.returned; told = p.told }
