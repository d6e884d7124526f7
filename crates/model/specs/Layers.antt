-- A layer as a picture.
use Rattle.lists.specs.Picture.{Picture, canvas}
use Rattle.model.specs.declared.layer.Layer.{Layer}

-- what a layer shows: the characters of its columns and rows, 0 outside them
abbrev pub picture_of : Layer → Picture
picture_of l = canvas l.width l.height l.codes.now
