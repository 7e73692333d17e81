mod Places
mod Faces
mod Sound
