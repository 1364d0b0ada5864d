use mathlib.Core.Path.{refl, sym, ◌∙◌}
use mathlib.Core.Bool.{true, false}
use Rattle.sabre.proofs.SoundAreas.{short_unfit, long_fit}
use Rattle.sabre.proofs.CallLaws.{not_start, unfit_by, sound_state, fits_clock, replied, amended, refused_1, read_left}
use Rattle.sabre.proofs.make.Goals as goal

pub returns-in-Start : goal.returns-in-Start
returns-in-Start c = rw c.in-Start.is c.start.ensures

pub ask-requires : goal.ask-requires
ask-requires c = sym c.is_reading.ensures ∙ c.if-is_reading.true

pub returns-then-is_reading : goal.returns-then-is_reading
returns-then-is_reading c =
    let o = c.args in
    let e = sym c.is_reading.ensures ∙ c.if-is_reading.true in
    record { returned = c.ask.ensures.returned; told = c.ask.ensures.told; left = read_left o.area.now o.c e }

pub returns-then-area-lt65536 : goal.returns-then-area-lt65536
returns-then-area-lt65536 c =
    let o = c.args in
    let n = not_start o.c c.in_default.not-Start in
    let u = unfit_by o.area.now o.c false n (short_unfit o.area.now c.if-area-lt65536.true) in
    let p = refused_1 o.area.now o.c _ _ u c.refuse.ensures.0 c.refuse.ensures.1 in
    record { returned = p.returned; told = p.told; left = p.left }

pub is_area_sound-requires : goal.is_area_sound-requires
is_area_sound-requires c = c.if-area-lt65536.false

pub make-r-requires : goal.make-r-requires
make-r-requires c = let h = long_fit c.args.area.now _ _ _ c.if-area-lt65536.false c.decode-s.ensures.0 c.decode-s.ensures.1 refl _ c.is_area_sound.ensures ∙ c.if-is_area_sound.true in
    let f = fits_clock _ (sound_state c.args.area.now _ c.decode-s.ensures.0 h) in
    (not_start c.args.c c.in_default.not-Start, c.requires, sym c.is_reading.ensures ∙ c.if-is_reading.false, f.0, f.1)

pub finish-requires : goal.finish-requires
finish-requires c = let o = c.args in
    let h = long_fit c.args.area.now _ _ _ c.if-area-lt65536.false c.decode-s.ensures.0 c.decode-s.ensures.1 refl _ c.is_area_sound.ensures ∙ c.if-is_area_sound.true in
    replied o.area.now o.c _ c.decode-s.ensures.0 _ h c.make-r.ensures

pub returns-then-is_area_sound : goal.returns-then-is_area_sound
returns-then-is_area_sound c = let o = c.args in
    let h = long_fit c.args.area.now _ _ _ c.if-area-lt65536.false c.decode-s.ensures.0 c.decode-s.ensures.1 refl _ c.is_area_sound.ensures ∙ c.if-is_area_sound.true in
    let u = unfit_by o.area.now o.c true (not_start o.c c.in_default.not-Start) h in
    let p = amended o.area.now o.c _ c.decode-s.ensures.0 (sym c.is_reading.ensures ∙ c.if-is_reading.false) _ _ _ _ u c.make-r.ensures c.finish.ensures.0 c.finish.ensures.1 c.finish.ensures.2 in
    record { returned = p.returned; told = p.told; left = p.left }

pub returns : goal.returns
returns c = let o = c.args in
    let h = long_fit c.args.area.now _ _ _ c.if-area-lt65536.false c.decode-s.ensures.0 c.decode-s.ensures.1 refl _ c.is_area_sound.ensures ∙ c.if-is_area_sound.false in
    let u = unfit_by o.area.now o.c false (not_start o.c c.in_default.not-Start) h in
    let p = refused_1 o.area.now o.c _ _ u c.refuse-2.ensures.0 c.refuse-2.ensures.1 in
    record { returned = p.returned; told = p.told; left = p.left }
